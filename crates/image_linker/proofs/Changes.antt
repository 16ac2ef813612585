-- A text that has a code from one index up to another, once the code is changed.
use Rattle.std.proofs.Common.{◌≡◌, ◌≤◌, ℕ, ◌+◌, ◌-◌, List, ◌++◌, take, drop, length, sym, ap, ◌∙◌, arith, append_assoc, length-append, length-drop}
use Rattle.std.specs.List.{between}
use Rattle.std.proofs.lemmas.List.{take_at, drop_at, length-take-le}
use Rattle.std.proofs.lemmas.List.Edits.{length-between}
use Rattle.image_linker.specs.Linking.{changed}

module _ (begin end : ℕ) (text : List ℕ) (rises : begin ≤ end) (within : end ≤ length text) where
  abbrev own : List ℕ
  own = between begin end text

  front_size : length (take begin text) ≡ begin
  front_size = length-take-le begin text (omega (arith, rises, within))

  module _ (f : List ℕ → List ℕ) (keeps : length (f (between begin end text)) ≡ length (between begin end text)) where
    parted : changed begin end f text ≡ (take begin text ++ f own) ++ drop end text
    parted = sym (append_assoc (take begin text) (f own) (drop end text))

    size : length (take begin text ++ f own) ≡ end
    size = omega (arith, rises, keeps, front_size, length-append (take begin text) (f own), length-between text begin end within)

    -- what is up to the code's end, and behind it
    pub changed_front : take end (changed begin end f text) ≡ take begin text ++ f (between begin end text)
    changed_front = ap (take end) parted ∙ take_at (take begin text ++ f own) (drop end text) end size

    pub changed_behind : drop end (changed begin end f text) ≡ drop end text
    changed_behind = ap (drop end) parted ∙ drop_at (take begin text ++ f own) (drop end text) end size

    pub changed_length : length (changed begin end f text) ≡ length text
    changed_length = ap length parted ∙ omega (arith, within, size, length-append (take begin text ++ f own) (drop end text), length-drop end text)

    -- and the code, which may be changed again
    pub changed_twice : (g : List ℕ → List ℕ) → changed begin end g (changed begin end f text) ≡ changed begin end (λ code. g (f code)) text
    changed_twice g =
        let next = changed begin end f text in
        let before : take begin next ≡ take begin text = take_at (take begin text) (f own ++ drop end text) begin front_size in
        let code : between begin end next ≡ f own =
        ap (take (end - begin)) (drop_at (take begin text) (f own ++ drop end text) begin front_size)
        ∙ take_at (f own) (drop end text) (end - begin) (omega (arith, keeps, length-between text begin end within)) in
        ap (λ (l : List ℕ). l ++ (g (between begin end next) ++ drop end next)) before
        ∙ ap (λ (l : List ℕ). take begin text ++ (g l ++ drop end next)) code
        ∙ ap (λ (l : List ℕ). take begin text ++ (g (f own) ++ l)) changed_behind
