use Rattle.std.proofs.Common.{◌≡◌, ◌*◌, length, take}
use Rattle.std.specs.List.{flat_map}
use Rattle.image_format.proofs.piece.write_items.Given as goal

abbrev pub invariant-loop-item : goal.invariant-loop-item
invariant-loop-item g l = record {
  at_is : l.at ≡ g.T.FixedSize.BYTES * l.item-index;
  bytes : take l.at l.room ≡ flat_map g.T.FixedSize.encoding (take l.item-index l.items);
  len : length l.room ≡ length l.fn.room;
}
