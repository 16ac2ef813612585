-- What a walk gives before and after a byte of a size.
use Rattle.std.proofs.Common.{◌≡◌, ℕ, suc, ◌+◌, ◌-◌, ◌^◌, ◌<◌, ◌≤◌, Bool, true, false, List, [], ◌∷◌, ◌++◌, length, Option, Some, None, refl, sym, ap, subst, ◌∙◌, arith, ℤ, pos, append_assoc, length-append}
use Rattle.std.specs.Prelude.{◌≤ℤ◌, ◌<ℤ◌}
use Rattle.std.proofs.Common.{to_z, of_z}
use mir.Syntax.{w128}
use Rattle.std.proofs.lemmas.Int.{ints}
use Rattle.wasm_defs.specs.declared.fault.Kind.{Kind}
use Rattle.wasm_defs.specs.declared.fault.Refusal.{Refusal}
use Rattle.wasm_defs.specs.Numbers.{Reading, Number, CutOff, Bad, Spells, number_at}
use Rattle.leb_feed.specs.declared.leb.Fed.TheVariants as fed
use Rattle.leb_feed.specs.Feeding.{Feeding, with_byte, told}
use Rattle.leb_feed.proofs.Casts.{unsigned_natural, spelled_bounds, wide_is}
use Rattle.body_cutter.specs.declared.walk.Walk.{Walk}
use Rattle.body_cutter.specs.Sections.{ends, Faulty, bodies_from, size_fault, goes_on, with_part, sized}
use Rattle.body_cutter.specs.Walks.{given, batches_of, after_batches, index_of, from_size, from_body, IsAtSize, IsSound, IsInHand, UnlessRefused}
use Rattle.body_cutter.proofs.Sizes.{from_there, malformed, cut_size, bad_size, whole_size, after_size, left_over}

told_more : (r : Reading) → fed.More ≡ told r → r ≡ CutOff
told_more (Number n len) e = absurd cc
told_more CutOff e = refl
told_more Bad e = absurd cc

told_bad : (r : Reading) → fed.Bad ≡ told r → r ≡ Bad
told_bad (Number n len) e = absurd cc
told_bad CutOff e = absurd cc
told_bad Bad e = refl

pub in_size : (w : Walk) (more : List ℕ) → w.sized ≡ false → w.stop ≡ None → given w more ≡ after_batches (batches_of w) (from_size w more)
unfolding given
in_size w more e f = rw (f, e) refl

pub in_body : (w : Walk) (more : List ℕ) → w.sized ≡ true → w.stop ≡ None → given w more ≡ after_batches (batches_of w) (from_body w more)
unfolding given
in_body w more e f = rw (f, e) refl

pub hand_at_size : (w : Walk) → IsSound w → w.sized ≡ false → w.stop ≡ None → IsAtSize w
hand_at_size w sound e f =
    let going : IsInHand w w.sized = subst (λ (s : Option Refusal). UnlessRefused s (IsInHand w w.sized)) f sound.hand in
    subst (λ (z : Bool). IsInHand w z) e going

module _ (w : Walk) (sound : IsSound w) (unsized : w.sized ≡ false) (going : w.stop ≡ None) (inside : w.at < w.end) (b : ℕ) where
  hand : IsAtSize w
  hand = hand_at_size w sound unsized going

  -- a byte after the last body
  pub behind_last : (more : List ℕ) → w.count ≡ 0 → given w (b ∷ more) ≡ after_batches (batches_of w) (malformed w.at)
  behind_last more none =
      let h = hand in
      let place : w.size_at ≡ w.at = omega (arith, h.place, ap length (h.fresh none)) in
      let rest : w.leb.bytes ++ b ∷ more ≡ b ∷ more = rw (h.fresh none) refl in
      in_size w (b ∷ more) unsized going
      ∙ ap (λ (k : ℕ). after_batches (batches_of w) (bodies_from (index_of w) k (from_there w.size_at (w.leb.bytes ++ b ∷ more) w.end))) none
      ∙ ap (λ (k : ℕ). after_batches (batches_of w) (bodies_from (index_of w) 0 (from_there k (w.leb.bytes ++ b ∷ more) w.end))) place
      ∙ ap (λ (l : List ℕ). after_batches (batches_of w) (bodies_from (index_of w) 0 (from_there w.at l w.end))) rest
      ∙ ap (after_batches (batches_of w)) (left_over (index_of w) w.at w.end b more inside)

  module _ (one : 0 < w.count) (leb : Feeding) (grows : leb ≡ with_byte w.leb b) (more : List ℕ) where
    bytes_are : leb.bytes ≡ w.leb.bytes ++ b ∷ []
    bytes_are = ap (λ (f : Feeding). f.bytes) grows

    pub long : w.size_at + length leb.bytes ≡ w.at + 1
    long = omega (arith, (hand).place, ap length bytes_are, length-append w.leb.bytes (b ∷ []))

    plain : number_at leb.signed leb.bits leb.bytes ≡ number_at false 32 leb.bytes
    plain = let h = hand in rw (ap (λ (f : Feeding). f.signed) grows ∙ h.signed, ap (λ (f : Feeding). f.bits) grows ∙ h.bits) refl

    joined : given w (b ∷ more) ≡ after_batches (batches_of w) (bodies_from (index_of w) (suc (w.count - 1)) (from_there w.size_at (leb.bytes ++ more) w.end))
    joined =
        let n : w.count ≡ suc (w.count - 1) = omega arith in
        let rest : w.leb.bytes ++ b ∷ more ≡ leb.bytes ++ more = sym (ap (λ (l : List ℕ). l ++ more) bytes_are ∙ append_assoc w.leb.bytes (b ∷ []) more) in
        in_size w (b ∷ more) unsized going
        ∙ ap (λ (l : List ℕ). after_batches (batches_of w) (bodies_from (index_of w) w.count (from_there w.size_at l w.end))) rest
        ∙ ap (λ (k : ℕ). after_batches (batches_of w) (bodies_from (index_of w) k (from_there w.size_at (leb.bytes ++ more) w.end))) n

    -- the section's end cuts the size off
    pub cut_off : w.at + 1 ≡ w.end → fed.More ≡ told (number_at leb.signed leb.bits leb.bytes) → given w (b ∷ more) ≡ after_batches (batches_of w) (malformed w.size_at)
    cut_off over e =
        let all : length leb.bytes ≡ w.end - w.size_at = omega (arith, long, (hand).place) in
        joined ∙ ap (after_batches (batches_of w)) (cut_size (index_of w) (w.count - 1) w.size_at w.end leb.bytes more all (sym plain ∙ told_more (number_at leb.signed leb.bits leb.bytes) e))

    -- no size begins so
    pub no_size : fed.Bad ≡ told (number_at leb.signed leb.bits leb.bytes) → given w (b ∷ more) ≡ after_batches (batches_of w) (malformed w.size_at)
    no_size e =
        let within : length leb.bytes ≤ w.end - w.size_at = omega (arith, long, (hand).place) in
        joined ∙ ap (after_batches (batches_of w)) (bad_size (index_of w) (w.count - 1) w.size_at w.end leb.bytes more within (sym plain ∙ told_bad (number_at leb.signed leb.bits leb.bytes) e))

    -- more bytes are owed
    pub still_in_size : given w (b ∷ more) ≡ given (record w { at = w.at + 1; leb = leb }) more
    still_in_size =
        let n : suc (w.count - 1) ≡ w.count = omega arith in
        joined
        ∙ ap (λ (k : ℕ). after_batches (batches_of w) (bodies_from (index_of w) k (from_there w.size_at (leb.bytes ++ more) w.end))) n
        ∙ sym (in_size (record w { at = w.at + 1; leb = leb }) more unsized going)

    -- the number that is answered
    pub size_is : (n : ℤ) (v : ℕ) → Spells n leb.bits leb.signed leb.bytes → pos v ≡ to_z w128 (of_z w128 n) → Spells (pos v) leb.bits leb.signed leb.bytes
    size_is n v spelled e =
        let h = hand in
        let few : leb.bits ≤ 64 = omega (arith, ap (λ (f : Feeding). f.bits) grows, h.bits) in
        let same : n ≡ pos v = sym (e ∙ wide_is n (spelled_bounds n leb.bits leb.signed leb.bytes few spelled)) in
        subst (λ (z : ℤ). Spells z leb.bits leb.signed leb.bytes) same spelled

    module _ (v : ℕ) (spelled : Spells (pos v) leb.bits leb.signed leb.bytes) where
      pub plainly : Spells (pos v) 32 false leb.bytes
      plainly =
          let h = hand in
          let bits : leb.bits ≡ 32 = ap (λ (f : Feeding). f.bits) grows ∙ h.bits in
          let signed : leb.signed ≡ false = ap (λ (f : Feeding). f.signed) grows ∙ h.signed in
          subst (λ (s : Bool). Spells (pos v) 32 s leb.bytes) signed (subst (λ (k : ℕ). Spells (pos v) k leb.signed leb.bytes) bits spelled)

      pub within_section : length leb.bytes ≤ w.end - w.size_at
      within_section = omega (arith, long, (hand).place)

      -- the size is whole
      pub size_whole : given w (b ∷ more) ≡ after_batches (batches_of w) (after_size (index_of w) (w.count - 1) w.size_at w.end leb.bytes more v plainly within_section (size_fault v (w.end - (w.at + 1))))
      size_whole =
          let e : w.end - (w.size_at + length leb.bytes) ≡ w.end - (w.at + 1) = ap (λ (k : ℕ). w.end - k) long in
          joined
          ∙ ap (after_batches (batches_of w)) (whole_size (index_of w) (w.count - 1) w.size_at w.end leb.bytes more v plainly within_section)
          ∙ ap (λ (k : ℕ). after_batches (batches_of w) (after_size (index_of w) (w.count - 1) w.size_at w.end leb.bytes more v plainly within_section (size_fault v k))) e

      -- the size is wrong
      pub size_wrong : (kind : Kind) → Some kind ≡ size_fault v (w.end - (w.at + 1)) → given w (b ∷ more) ≡ after_batches (batches_of w) (ends (Faulty (record { offset = w.size_at; kind = kind })))
      size_wrong kind e =
          size_whole ∙ ap (λ (f : Option Kind). after_batches (batches_of w) (after_size (index_of w) (w.count - 1) w.size_at w.end leb.bytes more v plainly within_section f)) (sym e)

      -- the size is right, and the body begins
      pub size_right : None ≡ size_fault v (w.end - (w.at + 1)) → given w (b ∷ more) ≡ given (record w { at = w.at + 1; leb = leb; sized = true; len = v }) more
      size_right e =
          let h = hand in
          let place : w.size_at + length leb.bytes ≡ w.at + 1 - length w.block.rest = omega (arith, long, ap length h.empty) in
          let rest : more ≡ w.block.rest ++ more = rw h.empty refl in
          size_whole
          ∙ ap (λ (f : Option Kind). after_batches (batches_of w) (after_size (index_of w) (w.count - 1) w.size_at w.end leb.bytes more v plainly within_section f)) (sym e)
          ∙ ap (λ (k : ℕ). after_batches (batches_of w) (goes_on (sized w.size_at v (from_there k more w.end)) (λ part d. with_part (index_of w) part (bodies_from (suc (index_of w)) (w.count - 1) d)))) place
          ∙ ap (λ (l : List ℕ). after_batches (batches_of w) (goes_on (sized w.size_at v (from_there (w.at + 1 - length w.block.rest) l w.end)) (λ part d. with_part (index_of w) part (bodies_from (suc (index_of w)) (w.count - 1) d)))) rest
          ∙ sym (in_body (record w { at = w.at + 1; leb = leb; sized = true; len = v }) more refl going)

-- a size is a natural number of 32 bits
pub natural_bounds : (n : ℤ) (leb : Feeding) → leb.bits ≡ 32 → leb.signed ≡ false → Spells n leb.bits leb.signed leb.bytes → (pos 0 ≤ℤ n) × (n <ℤ pos (2 ^ 32))
natural_bounds n leb bits signed spelled =
    let plain : Spells n 32 false leb.bytes = subst (λ (s : Bool). Spells n 32 s leb.bytes) signed (subst (λ (k : ℕ). Spells n k leb.signed leb.bytes) bits spelled) in
    let r = unsigned_natural n 32 leb.bytes plain in
    let is = r.is in
    let small = r.small in
    (omega (arith, ints), omega (arith, ints))
