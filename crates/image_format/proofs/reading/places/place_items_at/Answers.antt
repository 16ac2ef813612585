use Rattle.std.proofs.Common.{◌≡◌, ℕ, ◌+◌, Ok, subst, arith}
use Rattle.std.proofs.lemmas.Result.{err_from_is_err_and}
use Rattle.std.proofs.lemmas.List.Sums.{fold_push}
use Rattle.image_format.specs.declared.image.TrapPlace.{TrapPlace}
use Rattle.image_format.specs.Bounds.{bound_of}
use Rattle.image_format.specs.Reading.{Fails, place_at}
use Rattle.image_format.proofs.Loop.{goes_on, ends, is_done}
use Rattle.image_format.proofs.reading.places.place_items_at.Goals as goal

pub returns-in_err-place : goal.returns-in_err-place
returns-in_err-place c =
    let p = err_from_is_err_and c.from_residual-in_err-place.result c.from_residual-in_err-place.ensures.1 in
    let stops : Fails c.in_err-place.field-0.0 (place_at c.args.words (bound_of c.loop.places.items) c.loop.rest.now) =
    subst (λ (bound : ℕ). Fails c.in_err-place.field-0.0 (place_at c.args.words bound c.loop.rest.now)) c.loop.invariant.1 c.in_err-place.ensures in
    rw (p.1, p.2) (ends (λ front. place_at c.args.words (bound_of front)) c.loop.places.items c.args.count c.loop.counter c.loop.rest.now _ c.loop.invariant.0 c.in_err-place.field-0.0 c.loop-test.true stops)

pub loop-preserved : goal.loop-preserved
loop-preserved c =
    let read : place_at c.args.words (bound_of c.loop.places.items) c.loop.rest.now ≡ Ok (c.in_ok-place.place, c.in_ok-place.after.now) =
    subst (λ (bound : ℕ). place_at c.args.words bound c.loop.rest.now ≡ Ok (c.in_ok-place.place, c.in_ok-place.after.now)) c.loop.invariant.1 c.in_ok-place.ensures in
    let more = fold_push (λ (_ : ℕ) (p : TrapPlace). p.offset + 1) 0 c.loop.places.items c.in_ok-place.place in (
      rw c.in_ok-push.ensures.items (goes_on (λ front. place_at c.args.words (bound_of front)) c.loop.places.items c.args.count c.loop.counter c.loop.rest.now _ c.loop.invariant.0 c.in_ok-place.place c.in_ok-place.after.now c.loop-test.true read),
      rw c.in_ok-push.ensures.items (omega (arith, more, c.from-bound.ensures)),
    )

pub returns : goal.returns
returns c = is_done (λ front. place_at c.args.words (bound_of front)) c.loop.places.items c.args.count c.loop.counter c.loop.rest.now _ c.loop.invariant.0 c.loop-test.false
