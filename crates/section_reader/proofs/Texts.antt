-- A text that goes on, and the name that waits for it.
use Rattle.std.proofs.Common.{◌≡◌, ℕ, ◌+◌, ◌-◌, ◌<◌, ◌≤◌, true, false, List, [], ◌++◌, length, take, drop, Option, Some, refl, sym, ap, ◌∙◌, arith, length-append, length-drop, inl, inr}
use Rattle.std.proofs.lemmas.Bool.{cases_lt, lt-ltb, le-ltb, lt-leb, le-leb}
use Rattle.wasm_defs.specs.declared.text.Inside.{Inside}
use Rattle.wasm_defs.specs.Numbers.{Reading, Number, CutOff, Bad, number_at}
use Rattle.wasm_defs.specs.Text.{between, completes}
use Rattle.wasm_defs.specs.Fields.{Cursor, Got, Wants, then_go, done, window, room_of, past, from_reading, number, nat_of, u32, name, name_from, text_after}
use Rattle.wasm_laws.proofs.Steady.{with_more, field_steady}
use Rattle.wasm_laws.proofs.Windows.{all_of}
use Rattle.wasm_laws.proofs.FieldLaws.{u32_field}
use Rattle.section_reader.specs.declared.wait.Wait.TheVariants as wait
use Rattle.leb_feed.specs.Texts.{text_state}
use Rattle.leb_feed.proofs.Texts.{completes_now, completes_later}
use Rattle.section_reader.specs.Waits.{Follows, AwaitsAt}
use Rattle.section_reader.proofs.Leading.{more_got}

-- ---- texts

pub text_follows : (owed : ℕ) (s t : Inside) (c : Cursor) (bytes : List ℕ) → length bytes < owed → text_state (Some s) bytes ≡ Some t → t.due ≤ owed - length bytes → Follows (wait.Text owed s) c bytes (wait.Text (owed - length bytes) t)
text_follows owed s t c bytes few e h = record {
  passes = (few, completes_now owed s t bytes e h);
  later = λ more p. (omega (arith, p.0, length-append bytes more), completes_later owed s t bytes more e p.1);
}

-- ---- names

-- a name whose length is read, and whose text goes on
owed_from : (c d : Cursor) (n : ℕ × ℕ) (r : Reading) → then_go (from_reading c r) (λ m. done (m.0, nat_of m.1)) ≡ Got n d → n.1 ≤ room_of d → length d.rest < n.1 → completes n.1 between d.rest ≡ true → name_from c r ≡ Wants
owed_from c d n (Number z len) e fits owed right =
    let a : (c.at, nat_of z) ≡ n = cc in
    let b : past c len ≡ d = cc in
    owed_text (nat_of z) len (rw (← a, ← b) at fits) (rw (← a, ← b) at owed) (rw (← a, ← b) at right)
  where
    owed_text : (k len : ℕ) → k ≤ room_of (past c len) → length (drop len c.rest) < k → completes k between (drop len c.rest) ≡ true → text_after len k c ≡ Wants
    owed_text k len fits owed right =
        let short : length c.rest ≤ room_of c = omega (arith, length-drop len c.rest) in
        let whole : take k (drop len c.rest) ≡ drop len c.rest = all_of k (drop len c.rest) (omega arith) in
        rw (all_of (room_of c) c.rest short, whole, le-ltb (room_of c) (len + k) (omega arith), right, lt-ltb (length (drop len c.rest)) k owed) refl
owed_from c d n CutOff e fits owed right =
    elim (cases_lt (length c.rest) (room_of c)) [
      | inl lt ↦ absurd (let h = rw (lt-leb (room_of c) (length c.rest) lt) at e in cc)
      | inr ge ↦ absurd (let h = rw (le-leb (room_of c) (length c.rest) ge) at e in cc)
    ]
owed_from c d n Bad e fits owed right = absurd cc

name_owed : (c d : Cursor) (n : ℕ × ℕ) → u32 c ≡ Got n d → n.1 ≤ room_of d → length d.rest < n.1 → completes n.1 between d.rest ≡ true → name c ≡ Wants
unfolding name u32 number
name_owed c d n e fits owed right = owed_from c d n (number_at false 32 (window c)) e fits owed right

pub name_awaits : (c d : Cursor) (n : ℕ × ℕ) (s t : Inside) → Some s ≡ between → u32 c ≡ Got n d → n.1 ≤ room_of d → length d.rest < n.1 → text_state (Some s) d.rest ≡ Some t → (from : Cursor) → AwaitsAt name c (wait.Text (n.1 - length d.rest) t) from
name_awaits c d n s t begins e fits owed state from = λ more p.
    name_owed (with_more c more) (with_more d more) n (more_got u32 (field_steady [] u32 u32_field).by c d n e more) fits (omega (arith, p.0, length-append d.rest more))
    (ap (λ (o : Option Inside). completes n.1 o (d.rest ++ more)) (sym begins) ∙ completes_later n.1 s t d.rest more state p.1)
