-- How many instruction words a sequence has, wherever its labels lead.
use Rattle.std.proofs.Common.{◌≡◌, ℕ, List, [], ◌∷◌, length, None, refl, sym, ap₂, ◌∙◌}
use Rattle.wasm_defs.specs.declared.token.Plain.{Plain}
use Rattle.wasm_defs.specs.Places.{Place}
use Rattle.wasm_defs.specs.Trees.{Seq, Nothing}
use Rattle.wasm_defs.specs.Typing.{Context}
use Rattle.frame_layout.specs.Templates.{Declarations, Label, EmitContext, words}
use Rattle.frame_layout.specs.Functions.{over, size, code}
use Rattle.frame_layout.proofs.Sizes.{taken_by}
use Rattle.frame_layout.proofs.Sizes as sizes

abbrev pub AreAlike : List Label → List Label → Type 0
AreAlike [] [] = Unit {0}
AreAlike [] (m ∷ ms) = ⊥
AreAlike (l ∷ ls) [] = ⊥
AreAlike (l ∷ ls) (m ∷ ms) = (l.takes ≡ m.takes) × AreAlike ls ms

pub alike-same : (ls : List Label) → AreAlike ls ls
alike-same [] = tt
alike-same (l ∷ ls) = (refl, alike-same ls)

takes_alike : (ls ms : List Label) → AreAlike ls ms → taken_by ls ≡ taken_by ms
takes_alike [] [] h = refl
takes_alike [] (m ∷ ms) h = absurd h
takes_alike (l ∷ ls) [] h = absurd h
takes_alike (l ∷ ls) (m ∷ ms) h = ap₂ (λ (n : ℕ) (ns : List ℕ). n ∷ ns) h.0 (takes_alike ls ms h.1)

module _ (w : EmitContext) where
  pub words_size : (d : Declarations) (ls ms : List Label) (h here there : ℕ) (p : Plain) → AreAlike ls ms → length (words w d ls h here p) ≡ length (words w d ms h there p)
  words_size d ls ms h here there p a = sizes.words_size w w.distance_to d ls ms (takes_alike ls ms a) h here p ∙ sym (sizes.words_size w w.distance_to d ms ms refl h there p)

  pub over_size : (q : Place) (i j k l : ℕ) → length (over q i j) ≡ length (over q k l)
  over_size q i j k l = sizes.over_size w w.distance_to q i j ∙ sym (sizes.over_size w w.distance_to q k l)

  pub code_dead : (c : Context) (ls : List Label) (here : ℕ) (t : Seq) → code w c ls None here t ≡ []
  code_dead c ls here Nothing = refl
  code_dead c ls here p = refl

  pub size_dead : (c : Context) (ls : List Label) (t : Seq) → size w c ls None t ≡ 0
  size_dead c ls Nothing = refl
  size_dead c ls p = refl

  pub size_is : (c : Context) (ls ms : List Label) (q : Place) (here : ℕ) (t : Seq) → AreAlike ls ms → size w c ls q t ≡ length (code w c ms q here t)
  size_is c ls ms q here t a = sym (sizes.code_size w w.distance_to c ms ls (sym (takes_alike ls ms a)) t q here)
