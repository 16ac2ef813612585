-- More bytes after those that were read change no refusal and no part of a run.
use Rattle.std.proofs.Common.{◌≡◌, ℕ, zero, suc, ◌+◌, ◌-◌, ◌≤◌, ◌<◌, List, [], ◌∷◌, ◌++◌, length, refl, ap, arith, length-append, inl, inr}
use Rattle.std.proofs.lemmas.Bool.{cases_Bool, cases_eq}
use Rattle.wasm_defs.specs.Fields.{Cursor, Read, Got, Fault, Wants}
use Rattle.wasm_defs.specs.Entries.{Seen, nothing}
use Rattle.wasm_defs.specs.Outside.{Part, Section, Nothing, Row, row, header, entered, noted, inside, Ending, Whole, Refused, Owed, Run, after_part, runs_on, Next, finish, entries, contents, section, position_of, owes, at_the_end, or_section, sections_up_to, sections, beginning, module_read}
use Rattle.wasm_laws.specs.Runs.{Becomes, GoesOn}
use Rattle.wasm_laws.proofs.Steady.{with_more, Extends, got, faulty, owed, Advances, moves_of}
use Rattle.wasm_laws.proofs.EntryLaws.{header_steady, preamble_steady}
use Rattle.wasm_laws.proofs.Takes.{LeavesFewer, header_takes}
use Rattle.wasm_laws.proofs.RowLaws.{SteadyRow, Leaves, row_steady, end_steady}

-- ---- runs

abbrev pub SteadyNext : Next → Type 0
SteadyNext next = (seen : Seen) (c : Cursor) (more : List ℕ) → GoesOn (next seen c) (next seen (with_more c more))

after_becomes : (x : Part) (parts : List Part) (ending : Ending) (later : Run) → Becomes parts ending later → Becomes (x ∷ parts) ending (after_part x later)
after_becomes x parts (Refused r) later h = ap (after_part x) h
after_becomes x parts (Whole seen) later h = (h.0, ap (λ (l : List Part). x ∷ l) h.1)
after_becomes x parts Owed later h = (h.0, ap (λ (l : List Part). x ∷ l) h.1)

runs_extend : {A : Type 0} (more : List ℕ) (x y : Read A) (f : A → Cursor → Run) → Extends A more x y → ((a : A) (c : Cursor) → GoesOn (f a c) (f a (with_more c more))) → GoesOn (runs_on x f) (runs_on y f)
runs_extend more x y f (got a c) h = h a c
runs_extend more x y f (faulty r) h = refl
runs_extend more x y f (owed later) h = ((runs_on later f).parts, refl)

module _ (r : Row) (steady : SteadyRow r) (next : Next) (goes : SteadyNext next) where
  finish_goes : SteadyNext (finish r next)
  finish_goes seen c more = runs_extend more _ _ _ (steady.back.by c more) (λ x d. runs_extend more _ _ _ (end_steady.by d more) (λ y e. goes seen e more))

  pub entries_go : (n : ℕ) → SteadyNext (entries n r next)
  entries_go zero seen c more = finish_goes seen c more
  entries_go (suc n) seen c more = runs_extend more _ _ _ ((steady.entry seen).by c more) (λ x d. after_becomes x (entries n r next (noted seen x) d).parts (entries n r next (noted seen x) d).ending (entries n r next (noted seen x) (with_more d more)) (entries_go n (noted seen x) d more))

  pub contents_go : SteadyNext (contents r next)
  contents_go seen c more = runs_extend more _ _ _ ((steady.front seen).by c more) (λ n d. entries_go n seen d more)

section_goes : (next : Next) → SteadyNext next → SteadyNext (section next)
section_goes next goes seen c more = runs_extend more _ _ _ ((header_steady [] seen).by c more) (λ h d. contents_go (row h.0) (row_steady h.0) next goes (entered seen h.0) (inside d h.1) more)

end_becomes : (seen : Seen) (later : Run) → GoesOn (at_the_end seen) later
end_becomes seen later =
    elim (cases_Bool (owes seen)) [
      | inl code ↦ rw code (later.parts, refl)
      | inr none ↦ rw none (later.parts, refl)
    ]

or_goes : (next : Next) → SteadyNext next → (seen : Seen) (c : Cursor) (more rest : List ℕ) → GoesOn (or_section next seen c rest) (or_section next seen (with_more c more) (rest ++ more))
or_goes next goes seen c more [] = end_becomes seen _
or_goes next goes seen c more (b ∷ rest) =
    let r = section next seen c in
    after_becomes (Section c.at (position_of b)) r.parts r.ending (section next seen (with_more c more)) (section_goes next goes seen c more)

pub up_to_goes : (n : ℕ) → SteadyNext (sections_up_to n)
unfolding sections_up_to
up_to_goes zero seen c more = ([], refl)
up_to_goes (suc n) seen c more = or_goes (sections_up_to n) (up_to_goes n) seen c more c.rest

-- ---- enough sections are enough

abbrev pub Same : ℕ → Next → Next → Type 0
Same most f g = (seen : Seen) (c : Cursor) → length c.rest ≤ most → f seen c ≡ g seen c

abbrev LeavesAtMost : {A : Type 0} → ℕ → Read A → Type 0
LeavesAtMost most (Got x d) = length d.rest ≤ most
LeavesAtMost most (Fault r) = Unit {0}
LeavesAtMost most Wants = Unit {0}

leaves : {A : Type 0} (most : ℕ) (c : Cursor) (x : Read A) → Advances c x → length c.rest ≤ most → LeavesAtMost most x
leaves most c (Got x d) p h = let m = moves_of c d p in omega (arith, m.rest)
leaves most c (Fault r) p h = tt
leaves most c Wants p h = tt

leaves_end : (most : ℕ) (c : Cursor) (x : Read Nothing) → Leaves c x → length c.rest ≤ most → LeavesAtMost most x
leaves_end most c (Got x d) p h = rw p.1 h
leaves_end most c (Fault r) p h = tt
leaves_end most c Wants p h = tt

runs_same : {A : Type 0} (most : ℕ) (x : Read A) (f g : A → Cursor → Run) → LeavesAtMost most x → ((a : A) (d : Cursor) → length d.rest ≤ most → f a d ≡ g a d) → runs_on x f ≡ runs_on x g
runs_same most (Got x d) f g h same = same x d h
runs_same most (Fault r) f g h same = refl
runs_same most Wants f g h same = refl

module _ (most : ℕ) (r : Row) (steady : SteadyRow r) (f g : Next) (same : Same most f g) where
  pub finish_same : Same most (finish r f) (finish r g)
  finish_same seen c h = runs_same most _ _ _ (leaves most c _ (steady.back.moves c) h) (λ x d k. runs_same most _ _ _ (leaves_end most d _ (end_steady.leaves d) k) (λ y e l. same seen e l))

  pub entries_same : (n : ℕ) → Same most (entries n r f) (entries n r g)
  entries_same zero seen c h = finish_same seen c h
  entries_same (suc n) seen c h = runs_same most _ _ _ (leaves most c _ ((steady.entry seen).moves c) h) (λ x d k. ap (after_part x) (entries_same n (noted seen x) d k))

  pub contents_same : Same most (contents r f) (contents r g)
  contents_same seen c h = runs_same most _ _ _ (leaves most c _ ((steady.front seen).moves c) h) (λ n d k. entries_same n seen d k)

section_same : (most : ℕ) (f g : Next) (seen : Seen) (c : Cursor) → Same most f g → length c.rest ≤ suc most → section f seen c ≡ section g seen c
section_same most f g seen c same h = runs_same most _ _ _ (fewer (header seen c) ((header_takes seen).some c)) (λ x d k. contents_same most (row x.0) (row_steady x.0) f g same (entered seen x.0) (inside d x.1) k)
  where
    fewer : (x : Read (ℕ × ℕ)) → LeavesFewer c x → LeavesAtMost most x
    fewer (Got x d) p = omega arith
    fewer (Fault r) p = tt
    fewer Wants p = tt

pub or_same : (most : ℕ) (f g : Next) (seen : Seen) (c : Cursor) (rest : List ℕ) → Same most f g → length c.rest ≤ suc most → or_section f seen c rest ≡ or_section g seen c rest
or_same most f g seen c [] same h = refl
or_same most f g seen c (b ∷ rest) same h = ap (after_part (Section c.at (position_of b))) (section_same most f g seen c same h)

pub no_bytes : (f g : Next) (seen : Seen) (c : Cursor) (rest : List ℕ) → length rest ≤ 0 → or_section f seen c rest ≡ or_section g seen c rest
no_bytes f g seen c [] h = refl
no_bytes f g seen c (b ∷ rest) h = absurd (omega arith)

pub enough : (n m : ℕ) (seen : Seen) (c : Cursor) → length c.rest < n → length c.rest < m → sections_up_to n seen c ≡ sections_up_to m seen c
unfolding sections_up_to
enough zero m seen c h k = absurd (omega arith)
enough (suc n) zero seen c h k = absurd (omega arith)
enough (suc n) (suc m) seen c h k =
    elim (cases_eq (length c.rest) 0) [
      | inl none ↦ no_bytes (sections_up_to n) (sections_up_to m) seen c c.rest (omega arith)
      | inr some ↦ or_same (length c.rest - 1) (sections_up_to n) (sections_up_to m) seen c c.rest (λ s d l. enough n m s d (omega arith) (omega arith)) (omega arith)
    ]

pub sections_go : SteadyNext sections
sections_go seen c more =
    let few = length c.rest + 1 in
    let many = length (c.rest ++ more) + 1 in
    rw (enough few many seen c (omega arith) (omega (arith, length-append c.rest more))) (up_to_goes many seen c more)

-- more bytes change no refusal and no part
pub module_goes_on : (bytes more : List ℕ) → GoesOn (module_read bytes) (module_read (bytes ++ more))
module_goes_on bytes more = runs_extend more _ _ _ ((preamble_steady []).by (beginning bytes) more) (λ x c. sections_go nothing c more)
