-- What a cutter hands over, by where its walk is.
use Rattle.std.proofs.Common.{◌≡◌, ℕ, suc, ◌-◌, ◌<◌, inl, inr, Bool, true, false, leb, eqb, ◌||◌, ◌&&◌, List, [], ◌∷◌, ◌++◌, length, Option, Some, None, refl, sym, ap, subst, ◌∙◌, arith, append_assoc, eq-eqb}
use Rattle.std.specs.Prelude.{is_some, not}
use Rattle.std.proofs.lemmas.Bool.{cases_Bool, cases_lt, ne_eqb, eqb-true, and_parts}
use Rattle.std.proofs.lemmas.List.{append-nil}
use Rattle.wasm_defs.specs.declared.fault.Refusal.{Refusal}
use Rattle.wasm_defs.specs.Numbers.{IsCutOff}
use Rattle.body_cutter.specs.Bodies.{Body, Block, byte_count, no_bodies}
use Rattle.body_cutter.specs.declared.walk.Walk.{Walk}
use Rattle.body_cutter.specs.declared.queue.Waiting.{Waiting}
use Rattle.body_cutter.specs.Sections.{Given, End, Whole, Faulty, Owed, ends, bodies_from}
use Rattle.body_cutter.specs.Places.{still, unless_refused, on_hand}
use Rattle.body_cutter.specs.Walks.{Batched, given, batches_of, after_batches, position_of, index_of, is_over, IsSound, IsAtSize, IsInBody, IsInHand, UnlessRefused}
use Rattle.body_cutter.specs.Queues.{Queue, with_begun, with_body, with_bodies, all_closed, joined}
use Rattle.body_cutter.specs.Cuttings.{Handed, handed, finished, no_batch}
use Rattle.body_cutter.specs.Held.{end_of, end_by, last_of, waiting, queue_of}
use Rattle.body_cutter.proofs.Sizes.{from_there, size_owed, body_owed, nothing_left, whole_section, cut_read}
use Rattle.body_cutter.proofs.Batches.{joined_append}

-- ---- by the bytes that came

module _ (w : Walk) (sound : IsSound w) where
  hand : (o : Option Refusal) (s : Bool) → w.stop ≡ o → w.sized ≡ s → UnlessRefused o (IsInHand w s)
  hand o s e f = subst (λ (z : Bool). UnlessRefused o (IsInHand w z)) f (subst (λ (p : Option Refusal). UnlessRefused p (IsInHand w w.sized)) e sound.hand)

  some_owed : 0 < w.count → (eqb w.count 0 && eqb w.at w.end) ≡ false
  some_owed one = let e : eqb w.count 0 ≡ false = ne_eqb w.count 0 (λ h. omega arith) in rw e refl

  size_idle : IsAtSize w → bodies_from (index_of w) w.count (from_there w.size_at (w.leb.bytes ++ []) w.end) ≡ ends (end_of None (eqb w.count 0 && eqb w.at w.end))
  size_idle h =
      elim (cases_lt 0 w.count) [
        | inl one ↦
            let n : w.count ≡ suc (w.count - 1) = omega arith in
            let room : length w.leb.bytes < w.end - w.size_at = omega (arith, h.place, h.room one) in
            let u : IsCutOff false 32 w.leb.bytes = subst (λ (s : Bool). IsCutOff s 32 w.leb.bytes) h.signed (subst (λ (k : ℕ). IsCutOff w.leb.signed k w.leb.bytes) h.bits h.unfinished) in
            let cut = cut_read u.0 32 w.leb.bytes u.1 u.2 u.3 in
            ap (λ (k : ℕ). bodies_from (index_of w) k (from_there w.size_at (w.leb.bytes ++ []) w.end)) n
            ∙ size_owed (index_of w) (w.count - 1) w.size_at w.end w.leb.bytes room cut
            ∙ ap (λ (b : Bool). ends (end_of None b)) (sym (some_owed one))
        | inr none ↦
            let n : w.count ≡ 0 = omega arith in
            let t : eqb w.count 0 ≡ true = eq-eqb w.count 0 n in
            let empty : w.leb.bytes ++ [] ≡ [] = ap (λ (l : List ℕ). l ++ []) (h.fresh n) in
            let place : w.size_at ≡ w.at = omega (arith, h.place, ap length (h.fresh n)) in
            ap (λ (k : ℕ). bodies_from (index_of w) k (from_there w.size_at (w.leb.bytes ++ []) w.end)) n
            ∙ ap (λ (l : List ℕ). bodies_from (index_of w) 0 (from_there w.size_at l w.end)) empty
            ∙ ap (λ (k : ℕ). bodies_from (index_of w) 0 (from_there k [] w.end)) place
            ∙ (elim (cases_lt w.at w.end) [
              | inl lt ↦
                  let f : eqb w.at w.end ≡ false = ne_eqb w.at w.end (λ e. omega arith) in
                  let b : (eqb w.count 0 && eqb w.at w.end) ≡ false = rw (t, f) refl in
                  nothing_left (index_of w) w.at w.end lt ∙ ap (λ (b : Bool). ends (end_of None b)) (sym b)
              | inr ge ↦
                  let same : w.at ≡ w.end = omega (arith, sound.inside) in
                  let f : eqb w.at w.end ≡ true = eq-eqb w.at w.end same in
                  let b : (eqb w.count 0 && eqb w.at w.end) ≡ true = rw (t, f) refl in
                  ap (λ (k : ℕ). bodies_from (index_of w) 0 (from_there k [] w.end)) same
                  ∙ whole_section (index_of w) w.end []
                  ∙ ap (λ (b : Bool). ends (end_of None b)) (sym b)
            ])
      ]

  idle_at : (o : Option Refusal) (s : Bool) → w.stop ≡ o → w.sized ≡ s → still (position_of w) [] ≡ ends (end_by w)
  idle_at (Some r) s e f =
      ap (λ (o : Option Refusal). unless_refused o (on_hand (position_of w) w.sized [])) e
      ∙ sym (ap (λ (o : Option Refusal). ends (end_of o (eqb w.count 0 && eqb w.at w.end))) e)
  idle_at None false e f =
      ap (λ (o : Option Refusal). unless_refused o (on_hand (position_of w) w.sized [])) e
      ∙ ap (λ (z : Bool). on_hand (position_of w) z []) f
      ∙ size_idle (hand None false e f)
      ∙ sym (ap (λ (o : Option Refusal). ends (end_of o (eqb w.count 0 && eqb w.at w.end))) e)
  idle_at None true e f =
      let h : IsInBody w = hand None true e f in
      ap (λ (o : Option Refusal). unless_refused o (on_hand (position_of w) w.sized [])) e
      ∙ ap (λ (z : Bool). on_hand (position_of w) z []) f
      ∙ body_owed w.size_at w.len (w.at - length w.block.rest) w.end w.block.rest _ h.short (omega (arith, h.came, h.room))
      ∙ ap (λ (b : Bool). ends (end_of None b)) (sym (some_owed h.one))
      ∙ sym (ap (λ (o : Option Refusal). ends (end_of o (eqb w.count 0 && eqb w.at w.end))) e)

  -- no further bytes: how the section ends so far
  pub idle : still (position_of w) [] ≡ ends (end_by w)
  idle = idle_at w.stop w.sized refl refl

  over_at : (o : Option Refusal) (s : Bool) → w.stop ≡ o → w.sized ≡ s → is_over w ≡ true → (more : List ℕ) → still (position_of w) more ≡ ends (end_by w)
  over_at (Some r) s e f over more =
      ap (λ (o : Option Refusal). unless_refused o (on_hand (position_of w) w.sized more)) e
      ∙ sym (ap (λ (o : Option Refusal). ends (end_of o (eqb w.count 0 && eqb w.at w.end))) e)
  over_at None true e f over more =
      let h : IsInBody w = hand None true e f in
      let t = subst (λ (o : Option Refusal). (is_some o || (eqb w.count 0 && eqb w.at w.end)) ≡ true) e over in
      let b = some_owed h.one in
      absurd (let k : true ≡ false = sym t ∙ b in cc)
  over_at None false e f over more =
      let h : IsAtSize w = hand None false e f in
      let t = subst (λ (o : Option Refusal). (is_some o || (eqb w.count 0 && eqb w.at w.end)) ≡ true) e over in
      let both = and_parts (eqb w.count 0) (eqb w.at w.end) t in
      let n : w.count ≡ 0 = eqb-true w.count 0 both.0 in
      let same : w.at ≡ w.end = eqb-true w.at w.end both.1 in
      let place : w.size_at ≡ w.end = omega (arith, h.place, ap length (h.fresh n)) in
      ap (λ (o : Option Refusal). unless_refused o (on_hand (position_of w) w.sized more)) e
      ∙ ap (λ (z : Bool). on_hand (position_of w) z more) f
      ∙ ap (λ (k : ℕ). bodies_from (index_of w) k (from_there w.size_at (w.leb.bytes ++ more) w.end)) n
      ∙ ap (λ (l : List ℕ). bodies_from (index_of w) 0 (from_there w.size_at (l ++ more) w.end)) (h.fresh n)
      ∙ ap (λ (k : ℕ). bodies_from (index_of w) 0 (from_there k more w.end)) place
      ∙ whole_section (index_of w) w.end more
      ∙ ap (λ (b : Bool). ends (end_of None b)) (sym t)
      ∙ sym (ap (λ (o : Option Refusal). ends (end_of o (eqb w.count 0 && eqb w.at w.end))) e)

  -- where the section is over, further bytes change nothing
  pub over : is_over w ≡ true → (more : List ℕ) → still (position_of w) more ≡ ends (end_by w)
  over = over_at w.stop w.sized refl refl

-- ---- the batch that is begun closes at the end

pub closes : (o : Option Refusal) (b : Bool) (q : Queue) → (is_some o || b) ≡ true → finished (end_of o b) q ≡ all_closed q
closes (Some r) b q e = refl
closes None true q e = refl
closes None false q e = absurd cc

pub goes : (o : Option Refusal) (b : Bool) → (is_some o || b) ≡ false → end_of o b ≡ Owed
goes (Some r) b e = absurd cc
goes None true e = absurd cc
goes None false e = refl

pub is_whole : (o : Option Refusal) (b : Bool) → o ≡ None → (is_some o || b) ≡ true → end_of o b ≡ Whole
is_whole (Some r) b e f = absurd cc
is_whole None true e f = refl
is_whole None false e f = absurd cc

pub over_is_whole : (o : Option Refusal) (b : Bool) → o ≡ None → (is_some o || b) ≡ true → (not (is_some o) && b) ≡ true
over_is_whole (Some r) b e f = absurd cc
over_is_whole None true e f = refl
over_is_whole None false e f = absurd cc

pub tells_fault : (o : Option Refusal) (b : Bool) (r : Refusal) → end_of o b ≡ Faulty r → o ≡ Some r
tells_fault (Some s) b r e = let k : s ≡ r = cc in ap Some k
tells_fault None true r e = absurd cc
tells_fault None false r e = absurd cc

pub closed_twice : (q : Queue) → all_closed (all_closed q) ≡ all_closed q
closed_twice q = ap (λ (l : List Body). record { least = q.least; number = q.number; closed = l; begun = [] }) (append-nil (q.closed ++ q.begun))

-- ---- batches that wait before those of the walk

-- batches from a number on, with these before the closed ones
abbrev pub behind : ℕ → List Body → Queue → Queue
behind number front q = record { least = q.least; number = number; closed = front ++ q.closed; begun = q.begun }

begun_behind : (number : ℕ) (front : List Body) (q : Queue) (bodies : List Body) → with_begun (behind number front q) bodies ≡ behind number front (with_begun q bodies)
begun_behind number front q bodies = elim (cases_Bool (leb q.least (byte_count bodies))) [
  | inl e ↦ rw e (ap (λ (l : List Body). record { least = q.least; number = number; closed = l; begun = [] }) (append_assoc front q.closed bodies))
  | inr e ↦ rw e refl
]

with_behind : (bodies : List Body) (number : ℕ) (front : List Body) (q : Queue) → with_bodies (behind number front q) bodies ≡ behind number front (with_bodies q bodies)
with_behind [] number front q = refl
with_behind (b ∷ bodies) number front q =
    ap (λ (p : Queue). with_bodies p bodies) (begun_behind number front q (q.begun ++ b ∷ [])) ∙ with_behind bodies number front (with_body q b)

abbrev pub handed_of : Queue → End → Handed
handed_of q e = record { queue = q; ending = e }

abbrev handed_behind : ℕ → List Body → Batched → Handed
handed_behind number front b = handed_of (finished b.ending (behind number front b.queue)) b.ending

handed_there : (number : ℕ) (front : List Body) (q : Queue) (g : Given) → handed (behind number front q) g ≡ handed_behind number front (after_batches q g)
handed_there number front q g = ap (λ (p : Queue). handed_of (finished g.ending p) g.ending) (with_behind g.bodies number front q)

-- the batches that wait, and those of a walk
pub moved : (v w : Walk) (number : ℕ) (front : List Body) (bytes more : List ℕ) → given v bytes ≡ given w more
    → handed (behind number front (batches_of v)) (still (position_of v) bytes) ≡ handed (behind number front (batches_of w)) (still (position_of w) more)
unfolding given
moved v w number front bytes more same =
    handed_there number front (batches_of v) (still (position_of v) bytes)
    ∙ ap (handed_behind number front) same
    ∙ sym (handed_there number front (batches_of w) (still (position_of w) more))

-- where a walk gave no batch and none waits
pub first_given : (w : Walk) (more : List ℕ) (g : Given) → given w more ≡ after_batches (batches_of w) g → handed (batches_of w) (still (position_of w) more) ≡ handed (batches_of w) g
unfolding given
first_given w more g same = ap (λ (b : Batched). handed_of (finished b.ending b.queue) b.ending) same

abbrev queue : Walk → ℕ → List Body → Queue
queue w number waits = record { least = w.least; number = number; closed = waits; begun = w.block.bodies }

-- nothing came yet
pub none_waits : (w : Walk) (q : Waiting) → (q.number ≡ 0) × (q.closed ≡ []) × (q.last ≡ None) → w.closed ≡ [] → queue_of w q ≡ batches_of w
none_waits w q (number, waits, last) none =
    ap (λ (k : ℕ). queue w k (waiting q)) number
    ∙ ap (λ (o : Option (List Body)). queue w 0 (joined q.closed ++ last_of o)) last
    ∙ ap (λ (l : List (List Body)). queue w 0 (joined l ++ [])) waits
    ∙ ap (λ (l : List (List Body)). queue w 0 (joined l)) (sym none)

pub first_batches : (w : Walk) (least : ℕ) → w.least ≡ least → w.closed ≡ [] → w.block ≡ no_bodies → batches_of w ≡ no_batch least
first_batches w least e none empty =
    ap (λ (k : ℕ). record { least = k; number = 0; closed = joined w.closed; begun = w.block.bodies }) e
    ∙ ap (λ (l : List (List Body)). record { least = least; number = 0; closed = joined l; begun = w.block.bodies }) none
    ∙ ap (λ (b : Block). record { least = least; number = 0; closed = []; begun = b.bodies }) empty

-- between two calls the walk has closed none
pub waits_before : (w : Walk) (q : Waiting) → w.closed ≡ [] → queue_of w q ≡ behind q.number (waiting q) (batches_of w)
waits_before w q e =
    ap (queue w q.number) (sym (append-nil (waiting q)) ∙ ap (λ (l : List (List Body)). waiting q ++ joined l) (sym e))

-- those that it closed are moved behind those that wait
pub waits_after : (old new : Waiting) (closed : List (List Body)) → old.last ≡ None → new.last ≡ None → new.closed ≡ old.closed ++ closed → waiting new ≡ waiting old ++ joined closed
waits_after old new closed e f is =
    ap (λ (o : Option (List Body)). joined new.closed ++ last_of o) f
    ∙ append-nil (joined new.closed)
    ∙ ap joined is
    ∙ joined_append old.closed closed
    ∙ ap (λ (l : List Body). l ++ joined closed) (sym (append-nil (joined old.closed)) ∙ ap (λ (o : Option (List Body)). joined old.closed ++ last_of o) (sym e))

pub queue_after : (w : Walk) (old new : Waiting) → old.last ≡ None → new.last ≡ None → new.number ≡ old.number → new.closed ≡ old.closed ++ w.closed
    → queue_of w new ≡ behind old.number (waiting old) (batches_of w)
queue_after w old new e f number is = ap (λ (k : ℕ). queue w k (waiting new)) number ∙ ap (queue w old.number) (waits_after old new w.closed e f is)

-- a walk that ran, and the queue that has its batches
pub run_moves : (w v : Walk) (q r : Waiting) (bytes more : List ℕ) → w.closed ≡ [] → q.last ≡ None → r.last ≡ None → r.number ≡ q.number → r.closed ≡ q.closed ++ v.closed → given w bytes ≡ given v more
    → handed (queue_of w q) (still (position_of w) bytes) ≡ handed (queue_of v r) (still (position_of v) more)
run_moves w v q r bytes more none before after number closed same =
    ap (λ (p : Queue). handed p (still (position_of w) bytes)) (waits_before w q none)
    ∙ moved w v q.number (waiting q) bytes more same
    ∙ sym (ap (λ (p : Queue). handed p (still (position_of v) more)) (queue_after v q r before after number closed))

-- ---- the batch that is begun closes

-- what is handed over then, where no byte can follow
pub closing : (w v : Walk) (q : Queue) (more : List ℕ) → IsSound w → IsSound v → is_over w ≡ true → is_over v ≡ true → end_by v ≡ end_by w
    → handed q (still (position_of w) more) ≡ handed (all_closed q) (still (position_of v) more)
closing w v q more sound after e f same =
    let b = eqb w.count 0 && eqb w.at w.end in
    ap (handed q) (over w sound e more)
    ∙ ap (λ (p : Queue). handed_of p (end_by w)) (closes w.stop b q e ∙ sym (closed_twice q) ∙ sym (closes w.stop b (all_closed q) e))
    ∙ ap (λ (x : End). handed (all_closed q) (ends x)) (sym same)
    ∙ sym (ap (handed (all_closed q)) (over v after f more))

-- a walk without its bodies is one
stop_hand : (w : Walk) (o : Option Refusal) (s : Bool) → IsSound w → w.stop ≡ o → w.sized ≡ s → is_over w ≡ true → UnlessRefused o (IsInHand (record w { block = no_bodies }) s)
stop_hand w (Some r) s sound e f over = tt
stop_hand w None true sound e f over =
    let h : IsInBody w = hand w sound None true e f in
    let t = subst (λ (o : Option Refusal). (is_some o || (eqb w.count 0 && eqb w.at w.end)) ≡ true) e over in
    let b = some_owed w sound h.one in
    absurd (let k : true ≡ false = sym t ∙ b in cc)
stop_hand w None false sound e f over =
    let h : IsAtSize w = hand w sound None false e f in
    record { place = h.place; bits = h.bits; signed = h.signed; unfinished = h.unfinished; empty = refl; room = h.room; fresh = h.fresh }

pub sound_without : (w : Walk) → IsSound w → is_over w ≡ true → IsSound (record w { block = no_bodies })
sound_without w sound over = record {
  counted = sound.counted;
  inside = sound.inside;
  fits = sound.fits;
  hand = stop_hand w w.stop w.sized sound refl refl over;
}

-- ---- after a refusal

pub refused_left : (w : Walk) (q : Queue) (r : Refusal) (bytes : List ℕ) → w.stop ≡ Some r → finished (end_by w) q ≡ q → handed q (still (position_of w) bytes) ≡ record { queue = q; ending = Faulty r }
refused_left w q r bytes e prompt =
    let ending : end_by w ≡ Faulty r = ap (λ (o : Option Refusal). end_of o (eqb w.count 0 && eqb w.at w.end)) e in
    let closed : all_closed q ≡ q = sym (ap (λ (x : End). finished x q) ending) ∙ prompt in
    ap (λ (o : Option Refusal). handed q (unless_refused o (on_hand (position_of w) w.sized bytes))) e
    ∙ ap (λ (p : Queue). handed_of p (Faulty r)) closed
