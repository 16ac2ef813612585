-- What a whole run read is encoded by sections that keep the rules, and come to its parts.
use Rattle.std.proofs.Common.{◌≡◌, ◌≢◌, ◌≤◌, ◌<◌, ℕ, ◌+◌, false, ltb, leb, List, [], ◌∷◌, ◌++◌, length, refl, sym, ap, subst, ◌∙◌, append_assoc, arith, length-append, inl, inr}
use Rattle.std.proofs.lemmas.Bool.{ltb-false}
use Rattle.wasm_defs.specs.declared.fault.Kind.TheVariants.{Malformed, Limit}
use Rattle.wasm_defs.specs.Limits.{max_module}
use Rattle.wasm_defs.specs.Fields.{Cursor, Read, Got, Fault, Wants, byte, u32, here, room_of}
use Rattle.wasm_defs.specs.Entries.{Seen}
use Rattle.wasm_defs.specs.Outside as outside
use Rattle.wasm_defs.specs.Outside.{Part, position_of, id_of, is_misplaced, header, entered, inside, no_end, Whole, Run, runs_on, Next, section}
use Rattle.wasm_defs.specs.Items.{◌then◌, each_is, byte_is, u32_is, Section, Payload, Custom, Vector, Starting, Counting, Bodies, payload_position, payload_is, section_is, payload_items, StandsBehind, last_with, AreInOrder}
use Rattle.wasm_defs.specs.Rules.{AllKeep, all_noted, IsSmall, SectionsKeep}
use Rattle.wasm_laws.specs.Sections.{parts_of, parts_in}
use Rattle.wasm_laws.proofs.Steady.{IfGot}
use Rattle.wasm_laws.proofs.Headers.{Follows, entered_as}
use Rattle.wasm_laws.proofs.Positions.{id_again}
use Rattle.wasm_laws.proofs.Spelt.{Ready, Found, found_then, found_here, read, unless}
use Rattle.wasm_laws.proofs.SpeltFields.{byte_spelt, u32_spelt}
use Rattle.wasm_laws.proofs.Lasts.{all_keep_last, all_noted_last, small_last, sections_keep_last, all_last}

-- ---- whole runs

abbrev pub IfWhole : (List Part → Type 0) → Run → Type 0
IfWhole Q r = (s : Seen) → r.ending ≡ Whole s → Q r.parts

pub whole_on : {A : Type 0} (P : A → Cursor → Type 0) (Q : List Part → Type 0) (x : Read A) (f : A → Cursor → Run) → IfGot P x → ((a : A) (d : Cursor) → P a d → IfWhole Q (f a d)) → IfWhole Q (runs_on x f)
whole_on P Q (Got a d) f p h = h a d p
whole_on P Q (Fault r) f p h = λ s e. absurd cc
whole_on P Q Wants f p h = λ s e. absurd cc

pub whole_as : (P Q : List Part → Type 0) (r : Run) → ((parts : List Part) → P parts → Q parts) → IfWhole P r → IfWhole Q r
whole_as P Q r f h = λ s e. f r.parts (h s e)

-- ---- what is left of a module

-- the parts are those of sections that encode what follows, in order and by the rules
pub record Rest (seen : Seen) (c : Cursor) (parts : List Part) : Type 0 where
  pub sections : List Section
  pub spelled : each_is section_is sections c.at c.rest
  pub ordered : AreInOrder seen.last sections
  pub kept : SectionsKeep seen sections
  pub is : parts ≡ parts_in sections
  pub short : c.at + length c.rest ≤ max_module

-- between two sections
pub record Between (seen : Seen) (c : Cursor) : Type 0 where
  pub ready : Ready c
  pub low : c.at ≤ max_module
  pub far : c.end ≡ no_end
  pub uncounted : seen.last < 11 → seen.counted ≡ false

abbrev pub Describes : Next → Type 0
Describes next = (seen : Seen) (c : Cursor) → Between seen c → IfWhole (Rest seen c) (next seen c)

-- ---- headers

pub record HeaderFound (c d : Cursor) (h : ℕ × ℕ) : Type 0 where
  pub id : ℕ
  pub size : ℕ × ℕ
  pub position : position_of id ≡ h.0
  pub found : Found (byte_is c.at id then u32_is size) (Unit {0}) c d
  pub end : h.1 ≡ d.at + size.1
  pub short : h.1 ≤ max_module

pub header_found : (seen : Seen) (c : Cursor) → Ready c → IfGot (λ h d. HeaderFound c d h) (header seen c)
unfolding header here
header_found seen c ready =
    read _ _ byte _ _ c byte_spelt ready (λ id d id_found ready.
    unless _ (is_misplaced seen (position_of id.1)) Malformed id.0 _ d (λ placed.
    unless _ (leb max_module id.0) Limit id.0 _ d (λ early.
    read _ _ u32 _ _ d u32_spelt ready (λ size e size_found ready.
    unless _ (ltb max_module (e.at + size.1)) Limit size.0 _ e (λ fits.
    record {
      id = id.1;
      size = size;
      position = refl;
      found = found_then (Unit {0}) c d e (found_here (byte_is c.at id.1) (Unit {0}) c d id_found (refl, id_found.spelled.1) tt) size_found tt;
      end = refl;
      short = ltb-false max_module (e.at + size.1) fits;
    })))))

-- ---- what a section holds

-- the parts begin with those of a payload, which takes all bytes of the section
pub record Content (seen : Seen) (id : ℕ) (c : Cursor) (parts : List Part) : Type 0 where
  pub payload : Payload
  pub stop : Cursor
  pub found : Found (payload_is payload) (Unit {0}) c stop
  pub over : room_of stop ≡ 0
  pub id_is : payload_position payload ≡ id
  pub small : IsSmall seen payload
  pub kept : AllKeep seen (payload_items payload)
  pub tail : List Part
  pub is : parts ≡ parts_of payload ++ tail
  pub rest : Rest (all_noted seen (payload_items payload)) (inside stop no_end) tail

-- a section: what its header and its payload encode
module _ (c d : Cursor) (h : ℕ × ℕ) (hf : HeaderFound c d h) where
  section_spelled : (p : Payload) (K : Type 0) (f : Cursor) → payload_position p ≡ h.0 → (pf : Found (payload_is p) K (inside d h.1) f) → room_of f ≡ 0 → section_is (record { id = c.at; size = hf.size.0; payload = p }) c.at (hf.found.taken ++ pf.taken)
  section_spelled p K f id pf over =
      let s = hf.found.spelled in
      let len : length pf.taken ≡ hf.size.1 = omega (arith, hf.end, pf.at, pf.end, pf.fits) in
      let place : d.at ≡ c.at + length s.front + length s.back = omega (arith, hf.found.at, ap length s.parts, length-append s.front s.back) in
      record {
        front = s.front;
        back = s.back ++ pf.taken;
        parts = ap (λ (l : List ℕ). l ++ pf.taken) s.parts ∙ append_assoc s.front s.back pf.taken;
        first = subst (λ (k : ℕ). byte_is c.at k c.at s.front) (sym (id_again hf.id) ∙ ap id_of (hf.position ∙ sym id)) s.first;
        second = record {
          front = s.back;
          content = pf.taken;
          parts = refl;
          size = subst (λ (k : ℕ). u32_is (hf.size.0, k) (c.at + length s.front) s.back) (sym len) s.second;
          is = subst (λ (k : ℕ). payload_is p k pf.taken) place pf.spelled;
        };
      }

  -- with what follows it
  section_rest : (p : Payload) (K : Type 0) (f : Cursor) (seen next : Seen) (tail : List Part) → payload_position p ≡ h.0 → (pf : Found (payload_is p) K (inside d h.1) f) → room_of f ≡ 0
      → StandsBehind seen.last p → IsSmall seen p → AllKeep seen (payload_items p) → next.last ≡ last_with seen.last p
      → ((xs : List Section) → SectionsKeep next xs → SectionsKeep (all_noted seen (payload_items p)) xs)
      → Rest next (inside f no_end) tail → Rest seen c (outside.Section c.at h.0 ∷ (parts_of p ++ tail))
  section_rest p K f seen next tail id pf over order small kept last keep rest =
      let taken = hf.found.taken ++ pf.taken in
      let len = length-append hf.found.taken pf.taken in
      let place : f.at ≡ c.at + length taken = omega (arith, hf.found.at, pf.at) in
      let whole : c.rest ≡ taken ++ f.rest = hf.found.parts ∙ ap (λ (l : List ℕ). hf.found.taken ++ l) pf.parts ∙ sym (append_assoc hf.found.taken pf.taken f.rest) in
      record {
        sections = record { id = c.at; size = hf.size.0; payload = p } ∷ rest.sections;
        spelled = record {
          front = taken;
          back = f.rest;
          parts = whole;
          first = section_spelled p K f id pf over;
          second = subst (λ (k : ℕ). each_is section_is rest.sections k f.rest) place rest.spelled;
        };
        ordered = (order, subst (λ (k : ℕ). AreInOrder k rest.sections) last rest.ordered);
        kept = (small, kept, keep rest.sections rest.kept);
        is = ap (λ (k : ℕ). outside.Section c.at k ∷ (parts_of p ++ tail)) (sym id) ∙ ap (λ (l : List Part). outside.Section c.at (payload_position p) ∷ (parts_of p ++ l)) rest.is;
        short = omega (arith, rest.short, ap length whole, length-append taken f.rest, place);
      }

-- the same, of what is in the section
behind_zero : (last : ℕ) (p : Payload) → payload_position p ≢ 0 → last < payload_position p → StandsBehind last p
behind_zero last (Custom name) some lt = tt
behind_zero last p some lt = lt

last_some : (last : ℕ) (p : Payload) → payload_position p ≢ 0 → last_with last p ≡ payload_position p
last_some last (Custom name) some = absurd (some refl)
last_some last p some = refl

-- no vector has the position of custom sections
is_custom : (p : Payload) (at : ℕ) (bytes : List ℕ) → payload_is p at bytes → payload_position p ≡ 0 → (last : ℕ) → StandsBehind last p × (last_with last p ≡ last) × (payload_items p ≡ [])
is_custom (Custom name) at bytes s e last = (tt, refl, refl)
is_custom (Vector id count items) at bytes s e last = absurd (omega (arith, s.0.0))
is_custom (Starting index) at bytes s e last = absurd (omega arith)
is_custom (Counting count) at bytes s e last = absurd (omega arith)
is_custom (Bodies count end bodies) at bytes s e last = absurd (omega arith)

pub content_rest : (c d : Cursor) (h : ℕ × ℕ) (seen : Seen) (parts : List Part) → HeaderFound c d h → Follows seen h.0 → Content (entered seen h.0) h.0 (inside d h.1) parts → Rest seen c (outside.Section c.at h.0 ∷ parts)
content_rest c d h seen parts hf follows x =
    elim (entered_as seen h.0) [
      | inl none ↦ custom none.0 none.1
      | inr some ↦ other some.0 some.1
    ]
  where
    custom : h.0 ≡ 0 → entered seen h.0 ≡ seen → Rest seen c (outside.Section c.at h.0 ∷ parts)
    custom e same =
        let k = is_custom x.payload (inside d h.1).at x.found.taken x.found.spelled (x.id_is ∙ e) seen.last in
        let t = entered seen h.0 in
        subst (λ (l : List Part). Rest seen c (outside.Section c.at h.0 ∷ l)) (sym x.is)
        (section_rest c d h hf x.payload (Unit {0}) x.stop seen (all_noted t (payload_items x.payload)) x.tail x.id_is x.found x.over k.0
        (subst (λ (s : Seen). IsSmall s x.payload) same x.small)
        (subst (λ (s : Seen). AllKeep s (payload_items x.payload)) same x.kept)
        (all_last t (payload_items x.payload) ∙ ap (λ (s : Seen). s.last) same ∙ sym k.1)
        (λ xs m. subst (λ (s : Seen). SectionsKeep (all_noted s (payload_items x.payload)) xs) same m)
        x.rest)

    other : h.0 ≢ 0 → entered seen h.0 ≡ record seen { last = h.0 } → Rest seen c (outside.Section c.at h.0 ∷ parts)
    other some same =
        let t : Seen = record seen { last = h.0 } in
        let items = payload_items x.payload in
        let some_id : payload_position x.payload ≢ 0 = λ e. some (sym x.id_is ∙ e) in
        subst (λ (l : List Part). Rest seen c (outside.Section c.at h.0 ∷ l)) (sym x.is)
        (section_rest c d h hf x.payload (Unit {0}) x.stop seen (all_noted (entered seen h.0) items) x.tail x.id_is x.found x.over
        (behind_zero seen.last x.payload some_id (omega (arith, follows.later some, x.id_is)))
        (small_last t seen.last x.payload (subst (λ (s : Seen). IsSmall s x.payload) same x.small))
        (all_keep_last t seen.last items (subst (λ (s : Seen). AllKeep s items) same x.kept))
        (all_last (entered seen h.0) items ∙ ap (λ (s : Seen). s.last) same ∙ sym x.id_is ∙ sym (last_some seen.last x.payload some_id))
        (λ xs m. unlast (all_noted seen items) h.0 xs (subst (λ (s : Seen). SectionsKeep s xs) (ap (λ (s : Seen). all_noted s items) same ∙ all_noted_last seen h.0 items) m))
        x.rest)
      where
        unlast : (s : Seen) (l : ℕ) (xs : List Section) → SectionsKeep (record s { last = l }) xs → SectionsKeep s xs
        unlast s l xs m = sections_keep_last (record s { last = l }) s.last xs m
