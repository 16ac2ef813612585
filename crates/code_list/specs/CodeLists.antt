-- Codes that lie one after the other.
use Rattle.std.specs.Prelude.{◌≡◌, ◌≤◌, ℕ, zero, suc, List, [], ◌∷◌, length, slice_index_or}
use Rattle.std.specs.List.{between}
use Rattle.rv_isa.specs.declared.compiled.Code.{Code}
use Rattle.rv_isa.specs.declared.compiled.Relocation.{Relocation}
use Rattle.rv_isa.specs.declared.compiled.TrapSite.{TrapSite}
use Rattle.code_list.specs.declared.list.CodeEnd.{CodeEnd}
use Rattle.code_list.specs.declared.list.CodeParts.{CodeParts}
use Rattle.code_list.specs.declared.list.Added.{Added}
use Rattle.code_list.specs.declared.list.Added.TheVariants.{Lent, Own}

-- the code between two ends
abbrev pub code_between : List ℕ → List Relocation → List TrapSite → CodeEnd → CodeEnd → Code
code_between text calls sites begin end = record {
  words = between begin.words end.words text;
  relocations = between begin.calls end.calls calls;
  traps = between begin.sites end.sites sites;
  need = end.need;
}

-- the codes that have these ends, of which the first begins at the given one
abbrev pub codes_from : List ℕ → List Relocation → List TrapSite → CodeEnd → List CodeEnd → List Code
codes_from text calls sites begin [] = []
codes_from text calls sites begin (end ∷ ends) = code_between text calls sites begin end ∷ codes_from text calls sites end ends

-- the second end isn't before the first
pub record Rises (begin end : CodeEnd) : Type 0 where
  pub words : begin.words ≤ end.words
  pub calls : begin.calls ≤ end.calls
  pub sites : begin.sites ≤ end.sites

-- it is where the lists end, which have so many elements
pub record IsLast (text relocations traps : ℕ) (end : CodeEnd) : Type 0 where
  pub words : end.words ≡ text
  pub calls : end.calls ≡ relocations
  pub sites : end.sites ≡ traps

-- none of the ends is before another, and the last one is where the lists end
abbrev pub AreEnds : (words calls sites : ℕ) → CodeEnd → List CodeEnd → Type 0
AreEnds words calls sites begin [] = IsLast words calls sites begin
AreEnds words calls sites begin (end ∷ ends) = Rises begin end × AreEnds words calls sites end ends

-- the end before that of an index
abbrev pub end_before : CodeEnd → List CodeEnd → ℕ → CodeEnd
end_before begin ends zero = begin
end_before begin ends (suc k) = slice_index_or ends k begin

abbrev pub no_code : Code
no_code = record { words = []; relocations = []; traps = []; need = 0 }

-- the code of an index, if there is one
abbrev pub code_at : List Code → ℕ → Code
code_at codes k = slice_index_or codes k no_code

-- the parts of these codes, with some traps
abbrev pub IsParts : List Code → CodeParts → Type 0
IsParts codes p = (sites : List TrapSite) × AreEnds (length p.text) (length p.calls.items) (length sites) p.begin p.ends.items
    × (codes ≡ codes_from p.text p.calls.items sites p.begin p.ends.items)

-- the instruction words, whether lent or not
abbrev pub words_of : Added → List ℕ
words_of (Lent words) = words.now
words_of (Own words) = words
