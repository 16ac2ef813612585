-- The ends of codes, and the code of an index.
use Rattle.std.proofs.Common.{◌≡◌, ◌∙◌, ◌≤◌, ◌<◌, ℕ, zero, suc, List, [], ◌∷◌, length, refl, sym, ap, subst, arith}
use Rattle.std.specs.Prelude.{slice_index_or}
use Rattle.std.proofs.lemmas.List.{get_or_default}
use Rattle.rv_isa.specs.declared.compiled.Code.{Code}
use Rattle.rv_isa.specs.declared.compiled.Relocation.{Relocation}
use Rattle.rv_isa.specs.declared.compiled.TrapSite.{TrapSite}
use Rattle.code_list.specs.declared.list.CodeEnd.{CodeEnd}
use Rattle.code_list.specs.CodeLists.{code_between, codes_from, Rises, AreEnds, end_before, code_at}

-- there are as many codes as ends
pub count : (text : List ℕ) (calls : List Relocation) (sites : List TrapSite) (begin : CodeEnd) (ends : List CodeEnd) → length ends ≡ length (codes_from text calls sites begin ends)
count text calls sites begin [] = refl
count text calls sites begin (end ∷ ends) = ap suc (count text calls sites end ends)

-- no code begins behind where the lists end
pub record Within (text relocations traps : ℕ) (end : CodeEnd) : Type 0 where
  pub words : end.words ≤ text
  pub calls : end.calls ≤ relocations
  pub sites : end.sites ≤ traps

pub within : (words calls sites : ℕ) (begin : CodeEnd) (ends : List CodeEnd) → AreEnds words calls sites begin ends → Within words calls sites begin
within words calls sites begin [] is = record { words = omega (arith, is.words); calls = omega (arith, is.calls); sites = omega (arith, is.sites) }
within words calls sites begin (end ∷ ends) is =
    let later = within words calls sites end ends is.1 in
    record { words = omega (arith, is.0.words, later.words); calls = omega (arith, is.0.calls, later.calls); sites = omega (arith, is.0.sites, later.sites) }

-- the end before that of an index, seen from the first end on
before_next : (begin end : CodeEnd) (ends : List CodeEnd) (k : ℕ) → k < length ends → end_before begin (end ∷ ends) (suc k) ≡ end_before end ends k
before_next begin end ends zero lt = refl
before_next begin end ends (suc k) lt = get_or_default ends k begin end (omega arith)

-- the code of an index is what is between the end before and its own
pub code_is : (text : List ℕ) (calls : List Relocation) (sites : List TrapSite) (begin : CodeEnd) (ends : List CodeEnd) (k : ℕ) (end : CodeEnd) → k < length ends → end ≡ slice_index_or ends k end
    → code_at (codes_from text calls sites begin ends) k ≡ code_between text calls sites (end_before begin ends k) end
code_is text calls sites begin [] k end lt e = absurd (omega arith)
code_is text calls sites begin (first ∷ ends) zero end lt e = rw e refl
code_is text calls sites begin (first ∷ ends) (suc k) end lt e =
    code_is text calls sites first ends k end (omega arith) e
    ∙ ap (λ (b : CodeEnd). code_between text calls sites b end) (sym (before_next begin first ends k (omega arith)))

-- and these are in order, within the lists
pub rises_at : (words calls sites : ℕ) (begin : CodeEnd) (ends : List CodeEnd) (k : ℕ) (end : CodeEnd) → k < length ends → end ≡ slice_index_or ends k end → AreEnds words calls sites begin ends
    → Rises (end_before begin ends k) end × Within words calls sites end
rises_at words calls sites begin [] k end lt e is = absurd (omega arith)
rises_at words calls sites begin (first ∷ ends) zero end lt e is = rw e (is.0, within words calls sites first ends is.1)
rises_at words calls sites begin (first ∷ ends) (suc k) end lt e is =
    let later = rises_at words calls sites first ends k end (omega arith) e is.1 in
    (subst (λ (b : CodeEnd). Rises b end) (sym (before_next begin first ends k (omega arith))) later.0, later.1)

-- where the code of an index lies, and that it is there
pub record IsAt (text : List ℕ) (calls : List Relocation) (sites : List TrapSite) (begin end : CodeEnd) (code : Code) : Type 0 where
  pub is : code_between text calls sites begin end ≡ code
  pub rises : Rises begin end
  pub within : Within (length text) (length calls) (length sites) end

pub stands : (text : List ℕ) (calls : List Relocation) (sites : List TrapSite) (first : CodeEnd) (ends : List CodeEnd) (codes : List Code) → codes_from text calls sites first ends ≡ codes
    → AreEnds (length text) (length calls) (length sites) first ends
    → (k : ℕ) (given : List CodeEnd) (begin end : CodeEnd) → k < length codes → given ≡ ends → begin ≡ end_before first given k → end ≡ slice_index_or ends k end → IsAt text calls sites begin end (code_at codes k)
stands text calls sites first ends codes view is k given begin end lt same before own =
    let few : k < length ends = omega (arith, lt, count text calls sites first ends, ap (λ (l : List Code). length l) view) in
    let begins : end_before first ends k ≡ begin = sym (before ∙ ap (λ (l : List CodeEnd). end_before first l k) same) in
    let at = rises_at (length text) (length calls) (length sites) first ends k end few own is in
    record {
      is = ap (λ (b : CodeEnd). code_between text calls sites b end) (sym begins) ∙ sym (code_is text calls sites first ends k end few own) ∙ ap (λ (l : List Code). code_at l k) view;
      rises = subst (λ (b : CodeEnd). Rises b end) begins at.0;
      within = at.1;
    }

-- where there is no code, the first one may begin elsewhere
pub begun : (text more : List ℕ) (calls : List Relocation) (sites : List TrapSite) (begin : CodeEnd) (ends : List CodeEnd) (words : ℕ) → length ends ≡ 0 → length more ≡ words
    → AreEnds (length text) (length calls) (length sites) begin ends
    → AreEnds (length more) (length calls) (length sites) (record { words = words; calls = begin.calls; sites = begin.sites; need = begin.need }) ends
begun text more calls sites begin [] words none long is = record { words = sym long; calls = is.calls; sites = is.sites }
begun text more calls sites begin (end ∷ ends) words none long is = absurd (omega arith)

pub begun_view : (text more : List ℕ) (calls : List Relocation) (sites : List TrapSite) (begin other : CodeEnd) (ends : List CodeEnd) → length ends ≡ 0
    → codes_from more calls sites other ends ≡ codes_from text calls sites begin ends
begun_view text more calls sites begin other [] none = refl
begun_view text more calls sites begin other (end ∷ ends) none = absurd (omega arith)
