use Rattle.std.proofs.Common.{◌≡◌, drop, Some}
use Rattle.leb_feed.specs.Texts.{text_state}
use Rattle.leb_feed.proofs.text.state_after.Given as goal

abbrev pub invariant-loop-byte : goal.invariant-loop-byte
invariant-loop-byte l = text_state (Some l.inside) (drop l.byte-index l.bytes) ≡ text_state (Some l.fn.inside) l.bytes
