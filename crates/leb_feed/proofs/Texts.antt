-- What completes a text completes what is left of it.
use Rattle.std.proofs.Common.{◌≡◌, ℕ, ◌-◌, ◌≤◌, true, List, [], ◌∷◌, ◌++◌, length, Option, Some, None, refl, sym, ap, ◌∙◌, arith}
use Rattle.std.proofs.lemmas.List.{append-nil}
use Rattle.std.proofs.lemmas.Bool.{le-leb}
use Rattle.wasm_defs.specs.declared.text.Inside.{Inside}
use Rattle.wasm_defs.specs.Text.{next_byte, completes}
use Rattle.leb_feed.specs.Texts.{text_state}

pub completes_on : (room : ℕ) (s : Option Inside) (text more : List ℕ) → completes room s (text ++ more) ≡ completes (room - length text) (text_state s text) more
completes_on room None text more = refl
completes_on room (Some s) [] more = let e : room - 0 ≡ room = omega arith in rw e refl
completes_on room (Some s) (b ∷ text) more =
    let e : room - 1 - length text ≡ room - length (b ∷ text) = omega arith in
    rw (← e) (completes_on (room - 1) (next_byte s b) text more)

pub completes_after : (room : ℕ) (s : Option Inside) (text : List ℕ) → completes room s text ≡ completes (room - length text) (text_state s text) []
completes_after room s text = ap (completes room s) (sym (append-nil text)) ∙ completes_on room s text []

pub completes_now : (room : ℕ) (s t : Inside) (text : List ℕ) → text_state (Some s) text ≡ Some t → t.due ≤ room - length text → completes room (Some s) text ≡ true
completes_now room s t text e h =
    completes_after room (Some s) text
    ∙ ap (λ (o : Option Inside). completes (room - length text) o []) e
    ∙ le-leb t.due (room - length text) h

pub completes_later : (room : ℕ) (s t : Inside) (text more : List ℕ) → text_state (Some s) text ≡ Some t → completes (room - length text) (Some t) more ≡ true → completes room (Some s) (text ++ more) ≡ true
completes_later room s t text more e h = completes_on room (Some s) text more ∙ ap (λ (o : Option Inside). completes (room - length text) o more) e ∙ h
