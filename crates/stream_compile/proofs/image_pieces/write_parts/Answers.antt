use Rattle.std.proofs.Common.{◌≡◌, ◌∙◌, ◌++◌, false, List, ℕ, ap, subst, refl}
use Rattle.std.specs.List.{flat_map}
use Rattle.io_edges.specs.Streams.{WritesText}
use Rattle.image_format.specs.declared.image.TrapPlace.{TrapPlace}
use Rattle.image_format.specs.declared.parts.ShortFields.{ShortFields}
use Rattle.image_format.specs.Contents.{Image}
use Rattle.image_format.specs.ImageBytes.{place, u32}
use Rattle.image_format.specs.Parts.{joined}
use Rattle.image_run.proofs.PrintLaws.{writes_then, fails_first}
use Rattle.stream_compile.proofs.image_pieces.write_parts.Goals as goal

parts_are : (fields : ShortFields) (i : Image) (front words middle : List ℕ) (places : List TrapPlace) (count passive : List ℕ)
    → front ≡ fields.before_text.items → words ≡ flat_map u32 i.text → middle ≡ fields.before_places.items → places ≡ i.places → count ≡ fields.before_passive.items → passive ≡ i.passive
    → (front ++ words) ++ ((middle ++ flat_map place places) ++ (count ++ passive)) ≡ joined fields i
parts_are fields i front words middle places count passive p q r s t u = rw (p, q, r, s, t, u) refl

pub returns-then-write_both : goal.returns-then-write_both
returns-then-write_both g c =
    let first = c.as_slice-front.result.now ++ c.as_bytes.result.now in
    let second = (c.as_slice-middle.result.now ++ flat_map place c.as_slice-places.result.now) ++ (c.as_slice-count.result.now ++ c.as_slice-passive.result.now) in
    subst (λ (l : List ℕ). WritesText c.write_rest.result l (g.O.Sink.written c.args.out.now) (g.O.Sink.written c.write_rest.new.out) (g.O.Sink.faults c.args.out.now) (g.O.Sink.faults c.write_rest.new.out))
    (parts_are c.args.fields.now c.args.image.now _ _ _ _ _ _ c.as_slice-front.ensures.value (c.as_bytes.ensures ∙ ap (λ (i : Image). flat_map u32 i.text) c.image.view_is) c.as_slice-middle.ensures.value (c.as_slice-places.ensures ∙ ap (λ (i : Image). i.places) c.image.view_is) c.as_slice-count.ensures.value (c.as_slice-passive.ensures ∙ ap (λ (i : Image). i.passive) c.image.view_is))
    (writes_then c.write_rest.result first second (g.O.Sink.written c.args.out.now) (g.O.Sink.written c.write_both.new.out) (g.O.Sink.written c.write_rest.new.out) (g.O.Sink.faults c.args.out.now) (g.O.Sink.faults c.write_both.new.out) (g.O.Sink.faults c.write_rest.new.out) c.if-write_both.ensures.text c.write_rest.ensures)

pub returns-else-write_both : goal.returns-else-write_both
returns-else-write_both g c =
    let first = c.as_slice-front.result.now ++ c.as_bytes.result.now in
    let second = (c.as_slice-middle.result.now ++ flat_map place c.as_slice-places.result.now) ++ (c.as_slice-count.result.now ++ c.as_slice-passive.result.now) in
    subst (λ (l : List ℕ). WritesText false l (g.O.Sink.written c.args.out.now) (g.O.Sink.written c.write_both.new.out) (g.O.Sink.faults c.args.out.now) (g.O.Sink.faults c.write_both.new.out))
    (parts_are c.args.fields.now c.args.image.now _ _ _ _ _ _ c.as_slice-front.ensures.value (c.as_bytes.ensures ∙ ap (λ (i : Image). flat_map u32 i.text) c.image.view_is) c.as_slice-middle.ensures.value (c.as_slice-places.ensures ∙ ap (λ (i : Image). i.places) c.image.view_is) c.as_slice-count.ensures.value (c.as_slice-passive.ensures ∙ ap (λ (i : Image). i.passive) c.image.view_is))
    (fails_first first second (g.O.Sink.written c.args.out.now) (g.O.Sink.written c.write_both.new.out) (g.O.Sink.faults c.args.out.now) (g.O.Sink.faults c.write_both.new.out) c.if-write_both.ensures.text)
