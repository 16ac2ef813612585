-- What a walk gives before and after bytes of a body.
use Rattle.std.proofs.Common.{◌≡◌, ℕ, suc, ◌+◌, ◌-◌, ◌<◌, ◌≤◌, true, false, List, [], ◌++◌, length, Option, Some, None, Result, Ok, Err, refl, sym, ap, ◌∙◌, arith, append_assoc, length-append}
use Rattle.std.specs.Prelude.{OnOk, is_some}
use Rattle.wasm_defs.specs.declared.fault.Refusal.{Refusal}
use Rattle.wasm_defs.specs.Numbers.{CutOff, number_at}
use Rattle.leb_feed.specs.Feeding.{Feeding}
use Rattle.body_cutter.specs.Bodies.{Body, Block}
use Rattle.body_cutter.specs.declared.walk.Walk.{Walk}
use Rattle.body_cutter.specs.Sections.{Given, bodies_from, goes_on, with_part, sized}
use Rattle.body_cutter.specs.Walks.{given, batches_of, after_batches, index_of, from_hand, IsBetween, IsFull}
use Rattle.body_cutter.specs.Queues.{Queue, with_body}
use Rattle.body_cutter.specs.Places.{unless_refused}
use Rattle.body_cutter.proofs.Sizes.{from_there, malformed, cut_size, body_read}
use Rattle.body_cutter.proofs.Steps.{in_size, in_body}

pub on_ok : {A E P Q : Type 0} (r : Result A E) → (P → Q) → OnOk r P → OnOk r Q
on_ok (Ok x) f p = f p
on_ok (Err e) f p = tt

-- a size is owed, and no byte of the section is left
pub owed_none : (w : Walk) → IsBetween w → 0 < w.count → w.at ≡ w.end → (more : List ℕ) → given w more ≡ after_batches (batches_of w) (malformed w.at)
unfolding number_at
owed_none w b one over more =
    let none : w.leb.bytes ≡ [] = ap (λ (f : Feeding). f.bytes) b.begun in
    let n : w.count ≡ suc (w.count - 1) = omega arith in
    let all : length w.leb.bytes ≡ w.end - w.size_at = omega (arith, ap length none, b.place) in
    let cut : number_at false 32 w.leb.bytes ≡ CutOff = rw none refl in
    in_size w more b.unsized b.going
    ∙ ap (λ (k : ℕ). after_batches (batches_of w) (bodies_from (index_of w) k (from_there w.size_at (w.leb.bytes ++ more) w.end))) n
    ∙ ap (after_batches (batches_of w)) (cut_size (index_of w) (w.count - 1) w.size_at w.end w.leb.bytes more all cut)
    ∙ ap (λ (k : ℕ). after_batches (batches_of w) (malformed k)) b.place

-- the body in hand
abbrev pub body_of : Walk → Body
body_of w = record { index = index_of w; size = w.size_at; first = w.at - w.len; bytes = w.block.rest }

-- the body in hand is given
pub completed : (w m : Walk) → IsFull w → batches_of m ≡ with_body (batches_of w) (body_of w) → m.count ≡ w.count - 1 → m.behind ≡ w.behind → m.end ≡ w.end → m.size_at ≡ w.at → m.leb.bytes ≡ [] → m.sized ≡ false → m.stop ≡ None
    → (more : List ℕ) → given w more ≡ given m more
completed w m full batches count behind end place none unsized going more =
    let first : w.at - length w.block.rest ≡ w.at - w.len = ap (λ (k : ℕ). w.at - k) full.full in
    let fits : w.at - w.len + w.len ≤ w.end = omega (arith, full.came, full.inside) in
    let next : w.at - w.len + w.len ≡ w.at = omega (arith, full.came) in
    let index : suc (index_of w) ≡ m.behind - m.count = omega (arith, full.one, full.counted, behind, count) in
    let rest : more ≡ m.leb.bytes ++ more = rw none refl in
    in_body w more full.sized full.going
    ∙ ap (λ (k : ℕ). after_batches (batches_of w) (goes_on (sized w.size_at w.len (from_there k (w.block.rest ++ more) w.end)) (λ part d. with_part (index_of w) part (bodies_from (suc (index_of w)) (w.count - 1) d)))) first
    ∙ ap (λ r. after_batches (batches_of w) (goes_on r (λ part d. with_part (index_of w) part (bodies_from (suc (index_of w)) (w.count - 1) d)))) (body_read w.size_at w.len (w.at - w.len) w.end w.block.rest more full.full fits)
    ∙ ap (λ (q : Queue). after_batches q (bodies_from (suc (index_of w)) (w.count - 1) (from_there (w.at - w.len + w.len) more w.end))) (sym batches)
    ∙ ap (λ (k : ℕ). after_batches (batches_of m) (bodies_from k (w.count - 1) (from_there (w.at - w.len + w.len) more w.end))) index
    ∙ ap (λ (k : ℕ). after_batches (batches_of m) (bodies_from (index_of m) k (from_there (w.at - w.len + w.len) more w.end))) (sym count)
    ∙ ap (λ (k : ℕ). after_batches (batches_of m) (bodies_from (index_of m) m.count (from_there k more w.end))) (next ∙ sym place)
    ∙ ap (λ (l : List ℕ). after_batches (batches_of m) (bodies_from (index_of m) m.count (from_there m.size_at l w.end))) rest
    ∙ ap (λ (k : ℕ). after_batches (batches_of m) (bodies_from (index_of m) m.count (from_there m.size_at (m.leb.bytes ++ more) k))) (sym end)
    ∙ sym (in_size m more unsized going)

-- bytes of the body in hand
pub filled : (w : Walk) (b : Block) (piece more : List ℕ) → w.sized ≡ true → w.stop ≡ None → b ≡ record { bodies = w.block.bodies; rest = w.block.rest ++ piece }
    → given w (piece ++ more) ≡ given (record w { at = w.at + length piece; block = b }) more
filled w b piece more s going is =
    let place : w.at - length w.block.rest ≡ w.at + length piece - length (w.block.rest ++ piece) = omega (arith, length-append w.block.rest piece) in
    let rest : w.block.rest ++ (piece ++ more) ≡ (w.block.rest ++ piece) ++ more = sym (append_assoc w.block.rest piece more) in
    let filled_block : Block = record { bodies = w.block.bodies; rest = w.block.rest ++ piece } in
    in_body w (piece ++ more) s going
    ∙ ap (λ (k : ℕ). after_batches (batches_of w) (goes_on (sized w.size_at w.len (from_there k (w.block.rest ++ (piece ++ more)) w.end)) (λ part d. with_part (index_of w) part (bodies_from (suc (index_of w)) (w.count - 1) d)))) place
    ∙ ap (λ (l : List ℕ). after_batches (batches_of w) (goes_on (sized w.size_at w.len (from_there (w.at + length piece - length (w.block.rest ++ piece)) l w.end)) (λ part d. with_part (index_of w) part (bodies_from (suc (index_of w)) (w.count - 1) d)))) rest
    ∙ sym (in_body (record w { at = w.at + length piece; block = filled_block }) more s going)
    ∙ ap (λ (v : Block). given (record w { at = w.at + length piece; block = v }) more) (sym is)

-- after an error nothing changes
halted : (o : Option Refusal) (q : Queue) (x y : Given) → is_some o ≡ true → after_batches q (unless_refused o x) ≡ after_batches q (unless_refused o y)
halted None q x y e = absurd cc
halted (Some r) q x y e = refl

pub stays_stopped : (w : Walk) (a b : List ℕ) → is_some w.stop ≡ true → given w a ≡ given w b
unfolding given
stays_stopped w a b e = halted w.stop (batches_of w) (from_hand w w.sized a) (from_hand w w.sized b) e

-- nothing came yet
pub begun : (w new : Walk) (more : List ℕ) → given w more ≡ given new more → new ≡ record w { stop = new.stop } → w.leb.bytes ≡ [] → w.sized ≡ false → w.stop ≡ None
    → given new more ≡ after_batches (batches_of new) (bodies_from (index_of w) w.count (from_there w.size_at more w.end))
begun w new more same only empty unsized going =
    sym same
    ∙ in_size w more unsized going
    ∙ ap (λ (v : Walk). after_batches (batches_of v) (bodies_from (index_of w) w.count (from_there w.size_at (w.leb.bytes ++ more) w.end))) (sym only)
    ∙ ap (λ (l : List ℕ). after_batches (batches_of new) (bodies_from (index_of w) w.count (from_there w.size_at (l ++ more) w.end))) empty
