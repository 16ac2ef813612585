-- One code more, after the others.
use Rattle.std.proofs.Common.{◌≡◌, ◌∙◌, ◌≤◌, ◌+◌, ◌-◌, ℕ, List, [], ◌∷◌, ◌++◌, length, take, drop, refl, sym, ap, arith, length-append, length-drop}
use Rattle.std.specs.List.{between}
use Rattle.std.proofs.lemmas.List.{take_all, drop_at, take-append-le, drop-append-le}
use Rattle.rv_isa.specs.declared.compiled.Code.{Code}
use Rattle.rv_isa.specs.declared.compiled.Relocation.{Relocation}
use Rattle.rv_isa.specs.declared.compiled.TrapSite.{TrapSite}
use Rattle.code_list.specs.declared.list.CodeEnd.{CodeEnd}
use Rattle.code_list.specs.CodeLists.{code_between, codes_from, Rises, IsLast, AreEnds}
use Rattle.code_list.proofs.Ends.{within}

-- what is behind doesn't matter
between_front : {A : Type 0} (xs ys : List A) (from to : ℕ) → from ≤ to → to ≤ length xs → between from to (xs ++ ys) ≡ between from to xs
between_front xs ys from to le within =
    ap (take (to - from)) (drop-append-le from xs ys (omega arith)) ∙ take-append-le (to - from) (drop from xs) ys (omega (arith, length-drop from xs))

-- from the end of the first list on it is the second
between_last : {A : Type 0} (xs ys : List A) (from to : ℕ) → from ≡ length xs → to ≡ length xs + length ys → between from to (xs ++ ys) ≡ ys
between_last xs ys from to p q = ap (take (to - from)) (drop_at xs ys from (sym p)) ∙ take_all (to - from) ys (omega arith)

module _ (text : List ℕ) (calls : List Relocation) (sites : List TrapSite) (code : Code) (last : CodeEnd) (words_end : last.words ≡ length text + length code.words) (calls_end : last.calls ≡ length calls + length code.relocations) (sites_end : last.sites ≡ length sites + length code.traps) (need_is : last.need ≡ code.need) where
  abbrev code_of : List ℕ → List Relocation → List TrapSite → ℕ → Code
  code_of w c s need = record { words = w; relocations = c; traps = s; need = need }

  same_code : (w v : List ℕ) (c d : List Relocation) (s t : List TrapSite) (n m : ℕ) → w ≡ v → c ≡ d → s ≡ t → n ≡ m → code_of w c s n ≡ code_of v d t m
  same_code w v c d s t n m p q r e = rw (p, q, r, e) refl

  -- those before it stay
  earlier : (begin end : CodeEnd) → Rises begin end → end.words ≤ length text → end.calls ≤ length calls → end.sites ≤ length sites
      → code_between (text ++ code.words) (calls ++ code.relocations) (sites ++ code.traps) begin end ≡ code_between text calls sites begin end
  earlier begin end rises w c s =
      same_code _ _ _ _ _ _ _ _ (between_front text code.words begin.words end.words rises.words w)
      (between_front calls code.relocations begin.calls end.calls rises.calls c) (between_front sites code.traps begin.sites end.sites rises.sites s) refl

  newest : (begin : CodeEnd) → IsLast (length text) (length calls) (length sites) begin
      → code_between (text ++ code.words) (calls ++ code.relocations) (sites ++ code.traps) begin last ≡ code
  newest begin is =
      same_code _ _ _ _ _ _ _ _ (between_last text code.words begin.words last.words is.words words_end)
      (between_last calls code.relocations begin.calls last.calls is.calls calls_end) (between_last sites code.traps begin.sites last.sites is.sites sites_end) need_is

  pushed : (begin : CodeEnd) (ends : List CodeEnd) → AreEnds (length text) (length calls) (length sites) begin ends
      → codes_from (text ++ code.words) (calls ++ code.relocations) (sites ++ code.traps) begin (ends ++ last ∷ []) ≡ codes_from text calls sites begin ends ++ code ∷ []
  pushed begin [] is = ap (λ (k : Code). k ∷ []) (newest begin is)
  pushed begin (end ∷ ends) is =
      let later = within (length text) (length calls) (length sites) end ends is.1 in
      rw (earlier begin end is.0 later.words later.calls later.sites, pushed end ends is.1) refl

  ends_pushed : (begin : CodeEnd) (ends : List CodeEnd) → AreEnds (length text) (length calls) (length sites) begin ends
      → AreEnds (length (text ++ code.words)) (length (calls ++ code.relocations)) (length (sites ++ code.traps)) begin (ends ++ last ∷ [])
  ends_pushed begin [] is = (
    record { words = omega (arith, is.words, words_end); calls = omega (arith, is.calls, calls_end); sites = omega (arith, is.sites, sites_end) },
    record {
      words = words_end ∙ sym (length-append text code.words);
      calls = calls_end ∙ sym (length-append calls code.relocations);
      sites = sites_end ∙ sym (length-append sites code.traps);
    },
  )
  ends_pushed begin (end ∷ ends) is = (is.0, ends_pushed end ends is.1)

  pub one_more : (begin : CodeEnd) (ends : List CodeEnd) (codes : List Code) → codes_from text calls sites begin ends ≡ codes → AreEnds (length text) (length calls) (length sites) begin ends
      → (text2 : List ℕ) (calls2 : List Relocation) (sites2 : List TrapSite) (ends2 : List CodeEnd)
      → text2 ≡ text ++ code.words → calls2 ≡ calls ++ code.relocations → sites2 ≡ sites ++ code.traps → ends2 ≡ ends ++ last ∷ []
      → (codes_from text2 calls2 sites2 begin ends2 ≡ codes ++ code ∷ []) × AreEnds (length text2) (length calls2) (length sites2) begin ends2
  one_more begin ends codes view is text2 calls2 sites2 ends2 t c s e =
      rw (t, c, s, e) (pushed begin ends is ∙ ap (λ (l : List Code). l ++ code ∷ []) view, ends_pushed begin ends is)
