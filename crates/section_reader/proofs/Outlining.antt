-- The outline has the items and the ending of the module's reading, but where reading stops among the bodies.
use Rattle.std.proofs.Common.{◌≡◌, ◌≢◌, ℕ, zero, suc, ◌+◌, ◌-◌, ◌<◌, ◌≤◌, Bool, true, false, is_some, ltb, if◌then◌else◌, ◌||◌, List, [], ◌∷◌, length, drop, refl, sym, ap, subst, ◌∙◌, arith, add-one, length-append, length-take, inl, inr}
use Rattle.std.proofs.lemmas.Bool.{cases_Bool, cases_eq, eqb-true, le-ltb}
use Rattle.std.proofs.Math.Seq.{drop-append_seam}
use Rattle.wasm_defs.specs.declared.item.Item.{Item}
use Rattle.wasm_defs.specs.declared.item.Item.TheVariants as item
use Rattle.wasm_defs.specs.Limits.{max_body}
use Rattle.wasm_defs.specs.declared.fault.Kind.TheVariants.{Malformed, Limit}
use Rattle.wasm_defs.specs.Fields.{Cursor, Read, Got, Fault, Wants, ◌>>=◌, done, refused, then_go, room_of, window, past, u32, run, room, here}
use Rattle.wasm_defs.specs.Entries.{Seen, note, nothing, code}
use Rattle.wasm_defs.specs.Outside.{position_of, Part, Section, Listed, Coded, Body, Nothing, rest_of_section, body, listed, code_entry, Row, row, Ending, Whole, Owed, Refused, Run, ends, after_part, runs_on, noted, entered, inside, no_end, preamble, header, finish, entries, contents, sections, or_section, section_end, beginning, module_read}
use Rattle.wasm_laws.specs.Steadiness.{IfGot, Advance}
use Rattle.wasm_laws.proofs.Steady.{no_advance, advance_then, advance_fewer}
use Rattle.wasm_laws.proofs.RowLaws.{end_steady}
use Rattle.wasm_laws.proofs.EntryLaws.{body_steady}
use Rattle.wasm_laws.proofs.Takes.{header_takes}
use Rattle.wasm_laws.proofs.Parts.{got_is}
use Rattle.section_reader.specs.declared.stage.Stage.TheVariants.{Between, Contents, Entries}
use Rattle.section_reader.specs.Outline.{counted_code, outline_row, or_outline, outline_sections, outline}
use Rattle.section_reader.specs.Onward.{IsOrdered, is_count}
use Rattle.section_reader.specs.Outlining.{in_bodies, IsOutlined}
use Rattle.section_reader.proofs.Runs.{sections_are}
use Rattle.section_reader.proofs.OutlineRuns.{outline_steady, outline_is}
use Rattle.section_reader.proofs.Telling.{CodeRead, code_reads, other_row, ordered_between, header_ordered, front_ordered, entry_ordered}

-- ---- runs next to each other

-- whether reading is after the code section's count or not
record Matches (behind : Bool) (m o : Run) : Type 0 where
  whole : (seen : Seen) → m.ending ≡ Whole seen → IsOutlined m o
  apart : in_bodies behind m.parts ≡ false → IsOutlined m o

abbrev MatchesAll : Run → Run → Type 0
MatchesAll m o = (behind : Bool) → Matches behind m o

itself : (r : Run) → MatchesAll r r
itself r = λ behind. record { whole = λ seen e. record { items = refl; ending = refl }; apart = λ e. record { items = refl; ending = refl } }

after_outlined : (x : Part) (m o : Run) → IsOutlined m o → IsOutlined (after_part x m) (after_part x o)
after_outlined (Section at id) m o h = record { items = h.items; ending = h.ending }
after_outlined (Listed y) m o h = record { items = ap (λ (l : List Item). y ∷ l) h.items; ending = h.ending }
after_outlined (Coded b) m o h = record { items = h.items; ending = h.ending }

after_matches : (x : Part) (m o : Run) → MatchesAll m o → MatchesAll (after_part x m) (after_part x o)
after_matches (Section at id) m o h = λ behind. record { whole = λ seen e. after_outlined (Section at id) m o ((h false).whole seen e); apart = λ e. after_outlined (Section at id) m o ((h false).apart e) }
after_matches (Listed y) m o h = λ behind. record { whole = λ seen e. after_outlined (Listed y) m o ((h false).whole seen e); apart = λ e. after_outlined (Listed y) m o ((h (is_count y || behind)).apart e) }
after_matches (Coded b) m o h = λ behind. record { whole = λ seen e. after_outlined (Coded b) m o ((h behind).whole seen e); apart = λ e. after_outlined (Coded b) m o ((h behind).apart e) }

-- the outline doesn't report sections
section_matches : (at b : ℕ) (m o : Run) → MatchesAll m o → MatchesAll (after_part (Section at b) m) o
section_matches at b m o h = λ behind. record {
  whole = λ seen e. let k = (h false).whole seen e in record { items = k.items; ending = k.ending };
  apart = λ e. let k = (h false).apart e in record { items = k.items; ending = k.ending };
}

-- nor bodies
body_matches : (b : Body) (m o : Run) → Matches true m o → Matches true (after_part (Coded b) m) o
body_matches b m o h = record {
  whole = λ seen e. let k = h.whole seen e in record { items = k.items; ending = k.ending };
  apart = λ e. let k = h.apart e in record { items = k.items; ending = k.ending };
}

runs_match : {A : Type 0} (x : Read A) (f g : A → Cursor → Run) → ((a : A) (d : Cursor) → x ≡ Got a d → MatchesAll (f a d) (g a d)) → MatchesAll (runs_on x f) (runs_on x g)
runs_match (Got a d) f g h = h a d refl
runs_match (Fault r) f g h = itself (ends (Refused r))
runs_match Wants f g h = itself (ends Owed)

-- what stops among the bodies
stops_here : (ending : Ending) (o : Run) → ((seen : Seen) → ending ≡ Whole seen → ⊥) → Matches true (ends ending) o
stops_here ending o h = record { whole = λ seen e. absurd (h seen e); apart = λ e. absurd cc }

-- ---- the rest of a section

rest_is_passed : (c d : Cursor) → Advance c d → room_of d ≡ 0 → rest_of_section c ≡ Got tt d
unfolding rest_of_section room run
rest_is_passed c d p none =
    let all : length p.taken ≡ room_of c = omega (arith, p.at, p.end, p.fits, none) in
    let there : room_of c ≤ length (window c) = omega (arith, length-take (room_of c) c.rest, ap length p.parts, length-append p.taken d.rest, all) in
    let at : c.at + room_of c ≡ d.at = omega (arith, p.at, all) in
    let rest : drop (room_of c) c.rest ≡ d.rest = ap (λ (n : ℕ). drop n c.rest) (sym all) ∙ ap (drop (length p.taken)) p.parts ∙ drop-append_seam p.taken d.rest in
    let same : past c (room_of c) ≡ d =
    ap (λ (n : ℕ). record { at = n; rest = drop (room_of c) c.rest; end = c.end }) at
    ∙ ap (λ (l : List ℕ). record { at = d.at; rest = l; end = c.end }) rest
    ∙ ap (λ (n : ℕ). record { at = d.at; rest = d.rest; end = n }) (sym p.end) in
    rw (le-ltb (length (window c)) (room_of c) there) (ap (Got tt) same)

-- ---- bodies

abbrev IsBody : Part → Type 0
IsBody (Section at id) = ⊥
IsBody (Listed x) = ⊥
IsBody (Coded b) = Unit {0}

bodies_come : (counted : Bool) (c : Cursor) → IfGot (λ x d. IsBody x) (body counted c)
unfolding body room here
bodies_come counted c = of_size (u32 c)
  where
    of_bytes : (at first : ℕ) (r : Read (List ℕ)) → IfGot (λ x d. IsBody x) (then_go r (λ bytes e. Got (Coded (record { counted = counted; size = at; first = first; bytes = bytes })) e))
    of_bytes at first (Got bytes e) = tt
    of_bytes at first (Fault r) = tt
    of_bytes at first Wants = tt

    of_size : (r : Read (ℕ × ℕ)) → IfGot (λ x d. IsBody x) (then_go r (λ n. (λ d. then_go (room d) (λ left. if ltb n.1 2 || ltb left n.1 then refused Malformed n.0 else if ltb max_body n.1 then refused Limit n.0 else (here >>= (λ at. run n.1 >>= (λ bytes. done (Coded (record { counted = counted; size = n.0; first = at; bytes = bytes })))))))))
    of_size (Got n d) =
        elim (cases_Bool (ltb n.1 2 || ltb (room_of d) n.1)) [
          | inl wrong ↦ rw wrong tt
          | inr right ↦ rw right (elim (cases_Bool (ltb max_body n.1)) [
            | inl long ↦ rw long tt
            | inr short ↦ rw short (of_bytes n.0 d.at (run n.1 d))
          ])
        ]
    of_size (Fault r) = tt
    of_size Wants = tt

-- sections after that are shorter
abbrev NextMatch : ℕ → Type 0
NextMatch n = (seen : Seen) (e : Cursor) → length e.rest < n → IsOrdered Between seen → MatchesAll (sections seen e) (outline_sections seen e)

-- the next body
of_body : (counted : Bool) (seen : Seen) (c d : Cursor) (k : ℕ) (r : Read Part) → body counted d ≡ r
    → ((b : Body) (e : Cursor) → body counted d ≡ Got (Coded b) e → Matches true (entries k (row 11) sections seen e) (finish counted_code outline_sections seen c))
    → Matches true (runs_on r (λ x e. after_part x (entries k (row 11) sections (noted seen x) e))) (finish counted_code outline_sections seen c)
of_body counted seen c d k (Got (Coded b) e) is later = body_matches b _ _ (later b e is)
of_body counted seen c d k (Got (Section at id) e) is later = absurd (got_is (λ x f. IsBody x) (body counted d) (Section at id) e is (bodies_come counted d))
of_body counted seen c d k (Got (Listed x) e) is later = absurd (got_is (λ x f. IsBody x) (body counted d) (Listed x) e is (bodies_come counted d))
of_body counted seen c d k (Fault r) is later = stops_here (Refused r) _ (λ s e. absurd cc)
of_body counted seen c d k Wants is later = stops_here Owed _ (λ s e. absurd cc)

module _ (n : ℕ) (next : NextMatch n) where
  -- c is where the bodies begin, and d where the next one does
  bodies_match : (k : ℕ) (seen : Seen) (c d : Cursor) → seen.counted ≡ true → IsOrdered Between seen → Advance c d → length c.rest < n
      → Matches true (entries k (row 11) sections seen d) (finish counted_code outline_sections seen c)
  bodies_match zero seen c d counted o p few = of_end (section_end d) refl
    where
      of_end : (r : Read Nothing) → section_end d ≡ r → Matches true (runs_on r (λ y e. sections seen e)) (finish counted_code outline_sections seen c)
      of_end (Got tt e) is =
          let left = got_is (λ y f. (room_of d ≡ 0) × (f ≡ inside d no_end)) (section_end d) tt e is (end_steady.leaves d) in
          let rest = rest_is_passed c d p left.0 in
          let shorter : length e.rest < n = omega (arith, ap (λ (f : Cursor). length f.rest) left.1, advance_fewer c d p, few) in
          rw (rest, is) (next seen e shorter o true)
      of_end (Fault r) is = stops_here (Refused r) _ (λ s e. absurd cc)
      of_end Wants is = stops_here Owed _ (λ s e. absurd cc)
  bodies_match (suc k) seen c d counted o p few =
      let told = is_some seen.data_count in
      let entry : code_entry seen d ≡ body told d = ap (λ (b : Bool). (if b then body told else listed (code seen)) d) counted in
      subst (λ (r : Read Part). Matches true (runs_on r (λ x e. after_part x (entries k (row 11) sections (noted seen x) e))) (finish counted_code outline_sections seen c)) (sym entry)
      (of_body told seen c d k (body told d) refl (λ b e is. bodies_match k seen c e counted o (advance_then c d e p (got_is (λ x f. Advance d f) (body told d) (Coded b) e is ((body_steady [] told).moves d))) few))

  -- the code section: its count, and its bodies
  code_matches : (seen : Seen) (c : Cursor) → seen.counted ≡ false → IsOrdered (Contents 11) seen → length c.rest < n
      → MatchesAll (entries (suc seen.declared) (row 11) sections seen c) (entries 1 counted_code outline_sections seen c)
  code_matches seen c uncounted o few =
      let entry : code_entry seen c ≡ listed (code seen) c = ap (λ (b : Bool). (if b then body (is_some seen.data_count) else listed (code seen)) c) uncounted in
      subst (λ (r : Read Part). MatchesAll (runs_on r (λ x d. after_part x (entries seen.declared (row 11) sections (noted seen x) d))) (entries 1 counted_code outline_sections seen c)) (sym entry)
      (runs_match (listed (code seen) c) _ _ counted_match)
    where
      counted_match : (x : Part) (d : Cursor) → listed (code seen) c ≡ Got x d
          → MatchesAll (after_part x (entries seen.declared (row 11) sections (noted seen x) d)) (after_part x (finish counted_code outline_sections (noted seen x) d))
      counted_match (Section at id) d is = absurd (let t = (got_is (λ y f. CodeRead seen y f) (listed (code seen) c) (Section at id) d is (code_reads seen c)).is in cc)
      counted_match (Coded b) d is = absurd (let t = (got_is (λ y f. CodeRead seen y f) (listed (code seen) c) (Coded b) d is (code_reads seen c)).is in cc)
      counted_match (Listed x) d is =
          let h = got_is (λ y f. CodeRead seen y f) (listed (code seen) c) (Listed x) d is (code_reads seen c) in
          let same : x ≡ item.Code h.count d.end = listed_is x (item.Code h.count d.end) h.is in
          let read : (outline_row 11).entry seen c ≡ Got (Listed x) d = is in
          let moves = got_is (λ y f. Advance c f) (listed (code seen) c) (Listed x) d is (((outline_steady 11).entry seen).moves c) in
          let ordered = ordered_between (Entries 11 0) (note seen x) (entry_ordered 11 1 seen c d x (omega arith) read (front_ordered seen c c 11 1 refl o)) in
          let counted : (note seen x).counted ≡ true = rw same refl in
          let count : is_count x ≡ true = rw same refl in
          let inner = bodies_match seen.declared (note seen x) d d counted ordered (no_advance d) (omega (arith, advance_fewer c d moves, few)) in
          λ behind. record {
            whole = λ s e. after_outlined (Listed x) _ _ (inner.whole s e);
            apart = λ e. after_outlined (Listed x) _ _ (inner.apart (sym (ap (λ (b : Bool). in_bodies (b || behind) (entries seen.declared (row 11) sections (note seen x) d).parts) count) ∙ e));
          }
        where
          listed_is : (x y : Item) → Listed x ≡ Listed y → x ≡ y
          listed_is x y h = cc

  -- the other sections are read alike
  other_matches : (id : ℕ) → id ≢ 11 → (k : ℕ) (seen : Seen) (c : Cursor) → IsOrdered (Entries id k) seen → length c.rest < n
      → MatchesAll (entries k (outline_row id) sections seen c) (entries k (outline_row id) outline_sections seen c)
  other_matches id other zero seen c o few =
      runs_match ((outline_row id).back c) _ _ (λ x d is. runs_match (section_end d) _ _ (λ y e over.
      let p = got_is (λ z f. Advance c f) ((outline_row id).back c) x d is ((outline_steady id).back.moves c) in
      let left = got_is (λ z f. (room_of d ≡ 0) × (f ≡ inside d no_end)) (section_end d) y e over (end_steady.leaves d) in
      next seen e (omega (arith, ap (λ (f : Cursor). length f.rest) left.1, advance_fewer c d p, few)) (ordered_between (Entries id 0) seen o)))
  other_matches id other (suc k) seen c o few =
      runs_match ((outline_row id).entry seen c) _ _ (λ x d is. after_matches x _ _ (
      let p = got_is (λ z f. Advance c f) ((outline_row id).entry seen c) x d is (((outline_steady id).entry seen).moves c) in
      other_matches id other k (noted seen x) d (ordered x d is) (omega (arith, advance_fewer c d p, few))))
    where
      ordered : (x : Part) (d : Cursor) → (outline_row id).entry seen c ≡ Got x d → IsOrdered (Entries id k) (noted seen x)
      ordered (Listed x) d is = let less : suc k - 1 ≡ k = omega arith in subst (λ (m : ℕ). IsOrdered (Entries id m) (note seen x)) less (entry_ordered id (suc k) seen c d x (omega arith) is o)
      ordered (Section at b) d is = record { late = o.late; code = λ e. absurd (other (eqb-true id 11 e)) }
      ordered (Coded b) d is = record { late = o.late; code = λ e. absurd (other (eqb-true id 11 e)) }

  contents_match : (id : ℕ) (seen : Seen) (c : Cursor) → IsOrdered (Contents id) seen → length c.rest < n
      → MatchesAll (contents (row id) sections seen c) (contents (outline_row id) outline_sections seen c)
  contents_match id seen c o few =
      elim (cases_eq id 11) [
        | inl is ↦
            let ten : IsOrdered (Contents 11) seen = subst (λ (k : ℕ). IsOrdered (Contents k) seen) is o in
            let uncounted : seen.counted ≡ false = (ten.code refl).counted in
            let one : seen.declared + 1 ≡ suc seen.declared = add-one seen.declared in
            rw (is, one) (code_matches seen c uncounted ten few)
        | inr other ↦
            subst (λ (r : Row). MatchesAll (contents r sections seen c) (contents (outline_row id) outline_sections seen c)) (other_row id other)
            (runs_match ((outline_row id).front seen c) _ _ (λ k d is.
            let p = got_is (λ z f. Advance c f) ((outline_row id).front seen c) k d is (((outline_steady id).front seen).moves c) in
            other_matches id other k seen d (front_ordered seen c d id k is o) (omega (arith, advance_fewer c d p, few))))
      ]

  section_match : (seen : Seen) (c : Cursor) → IsOrdered Between seen → length c.rest ≤ n → (rest : List ℕ) → MatchesAll (or_section sections seen c rest) (or_outline outline_sections seen c rest)
  section_match seen c o few [] = itself _
  section_match seen c o few (b ∷ rest) =
      section_matches c.at (position_of b) _ _ (runs_match (header seen c) _ _ (λ h d is.
      let shorter = got_is (λ z f. length f.rest < length c.rest) (header seen c) h d is ((header_takes seen).some c) in
      contents_match h.0 (entered seen h.0) (inside d h.1) (header_ordered seen c d h is o) (omega (arith, shorter, few))))

sections_match : (n : ℕ) → NextMatch n
sections_match zero seen c few o = absurd (omega arith)
sections_match (suc n) seen c few o = rw (sections_are seen c, outline_is seen c) (section_match n (sections_match n) seen c o (omega arith) c.rest)

modules_match : (bytes : List ℕ) → MatchesAll (module_read bytes) (outline bytes)
modules_match bytes =
    runs_match (preamble (beginning bytes)) _ _ (λ x c is. sections_match (length c.rest + 1) nothing c (omega arith) (record { late = λ e. absurd cc; code = λ e. absurd cc }))

pub outline_of_whole : (bytes : List ℕ) (seen : Seen) → (module_read bytes).ending ≡ Whole seen → IsOutlined (module_read bytes) (outline bytes)
outline_of_whole bytes seen e = (modules_match bytes false).whole seen e

pub outline_apart : (bytes : List ℕ) → in_bodies false (module_read bytes).parts ≡ false → IsOutlined (module_read bytes) (outline bytes)
outline_apart bytes e = (modules_match bytes false).apart e
