-- A module that is read whole is encoded by sections that keep the rules.
use Rattle.std.proofs.Common.{◌≡◌, ℕ, ◌+◌, List, [], ◌∷◌, ◌++◌, length, map, true, None, refl, sym, ap, subst, ◌∙◌, append_assoc, arith, length-append}
use Rattle.wasm_defs.proofs.NumberLaws as numbers
use Rattle.wasm_defs.specs.declared.item.Item.{Item}
use Rattle.wasm_defs.specs.declared.item.Item.TheVariants.{Code}
use Rattle.wasm_defs.specs.Context.{declared_count, data_count_of, segment_count_of}
use Rattle.wasm_defs.specs.Fields.{Cursor, fixed}
use Rattle.wasm_defs.specs.Entries.{Seen, nothing}
use Rattle.wasm_defs.specs.Outside.{Body, Part, Listed, Coded, Ending, Whole, Refused, Owed, Run, agrees, sections, magic, version, preamble, beginning, module_read}
use Rattle.wasm_defs.specs.Faults.{items_of, bodies_of, ending_fault, Module, IsModule}
use Rattle.wasm_defs.specs.Items.{◌then◌, exactly, each_is, Section, Payload, Custom, Vector, Starting, Counting, Bodies, section_is, payload_items, payload_bodies, items_in, bodies_in}
use Rattle.wasm_laws.specs.Sections.{parts_of, parts_in, AreSectionsOf}
use Rattle.wasm_laws.proofs.Steady.{IfGot}
use Rattle.wasm_laws.proofs.Parts.{then_got}
use Rattle.wasm_laws.proofs.Counts.{bodies_match}
use Rattle.wasm_laws.proofs.DataCounts.{AreToldOf, bodies_are_told, segments_agree}
use Rattle.wasm_laws.proofs.Spelt.{Ready, Found, found_then, later}
use Rattle.wasm_laws.proofs.SpeltFields.{fixed_found}
use Rattle.wasm_laws.proofs.Describing.{IfWhole, whole_on, whole_as, Rest, Between}
use Rattle.wasm_laws.proofs.Contents.{up_to_found}

-- ---- items and bodies among parts

items_before : (xs : List Item) (parts : List Part) → items_of (map Listed xs ++ parts) ≡ xs ++ items_of parts
items_before [] parts = refl
items_before (x ∷ xs) parts = ap (λ (l : List Item). x ∷ l) (items_before xs parts)

bodies_skip : (xs : List Item) (parts : List Part) → bodies_of (map Listed xs ++ parts) ≡ bodies_of parts
bodies_skip [] parts = refl
bodies_skip (x ∷ xs) parts = bodies_skip xs parts

bodies_before : (bs : List Body) (parts : List Part) → bodies_of (map Coded bs ++ parts) ≡ bs ++ bodies_of parts
bodies_before [] parts = refl
bodies_before (b ∷ bs) parts = ap (λ (l : List Body). b ∷ l) (bodies_before bs parts)

items_skip : (bs : List Body) (parts : List Part) → items_of (map Coded bs ++ parts) ≡ items_of parts
items_skip [] parts = refl
items_skip (b ∷ bs) parts = items_skip bs parts

payload_items_of : (p : Payload) (parts : List Part) → items_of (parts_of p ++ parts) ≡ payload_items p ++ items_of parts
payload_items_of (Custom name) parts = refl
payload_items_of (Vector id count items) parts = items_before items parts
payload_items_of (Starting index) parts = refl
payload_items_of (Counting count) parts = refl
payload_items_of (Bodies count end bodies) parts = ap (λ (l : List Item). Code (count, length bodies) end ∷ l) (items_skip bodies parts)

payload_bodies_of : (p : Payload) (parts : List Part) → bodies_of (parts_of p ++ parts) ≡ payload_bodies p ++ bodies_of parts
payload_bodies_of (Custom name) parts = refl
payload_bodies_of (Vector id count items) parts = bodies_skip items parts
payload_bodies_of (Starting index) parts = refl
payload_bodies_of (Counting count) parts = refl
payload_bodies_of (Bodies count end bodies) parts = bodies_before bodies parts

pub items_of_parts : (sections : List Section) → items_of (parts_in sections) ≡ items_in sections
items_of_parts [] = refl
items_of_parts (s ∷ sections) = payload_items_of s.payload (parts_in sections) ∙ ap (λ (l : List Item). payload_items s.payload ++ l) (items_of_parts sections)

pub bodies_of_parts : (sections : List Section) → bodies_of (parts_in sections) ≡ bodies_in sections
bodies_of_parts [] = refl
bodies_of_parts (s ∷ sections) = payload_bodies_of s.payload (parts_in sections) ∙ ap (λ (l : List Body). payload_bodies s.payload ++ l) (bodies_of_parts sections)

-- ---- modules

preamble_found : (c : Cursor) → Ready c → IfGot (λ v d. Found (exactly magic then exactly version) (Unit {0}) c d) (preamble c)
unfolding preamble
preamble_found c ready =
    then_got (λ m d. Found (exactly magic) (m ≡ c.at) c d) _ (fixed magic c) _ (fixed_found magic c ready)
    (λ m d first.
    then_got (λ v e. Found (exactly version) (v ≡ d.at) d e) _ (fixed version d) _ (fixed_found version d (later c d first ready))
    (λ v e second. found_then (Unit {0}) c d e first second tt))

-- the sections after the preamble
record Behind (bytes : List ℕ) (parts : List Part) : Type 0 where
  stop : Cursor
  found : Found (exactly magic then exactly version) (Unit {0}) (beginning bytes) stop
  rest : Rest nothing stop parts

module_found : (bytes : List ℕ) → numbers.AreBytes bytes → IfWhole (Behind bytes) (module_read bytes)
module_found bytes fits =
    let ready : Ready (beginning bytes) = record { low = omega arith; bytes = fits } in
    whole_on (λ v d. Found (exactly magic then exactly version) (Unit {0}) (beginning bytes) d) (Behind bytes) (preamble (beginning bytes)) _ (preamble_found (beginning bytes) ready)
    (λ v d found.
    let s = found.spelled in
    let eight : length found.taken ≡ 8 = omega (arith, ap length s.parts, length-append s.front s.back, ap length s.first, ap length s.second) in
    let between : Between nothing d = record { ready = later (beginning bytes) d found ready; low = omega (arith, found.at); far = found.end; uncounted = λ lt. refl } in
    whole_as (Rest nothing d) (Behind bytes) (sections nothing d) (λ parts rest. record { stop = d; found = found; rest = rest }) (up_to_found (length d.rest + 1) nothing d between))

-- as many data segments as the data count says, and each body says whether there is one
abbrev HasSegments : List Part → Type 0
HasSegments parts = (agrees (data_count_of (items_of parts)) (segment_count_of (items_of parts)) ≡ true) × AreToldOf (data_count_of (items_of parts)) (bodies_of parts)

described : (bytes : List ℕ) (parts : List Part) → Behind bytes parts → length (bodies_of parts) ≡ declared_count (items_of parts) → HasSegments parts → (sections : List Section) × AreSectionsOf sections bytes × (parts ≡ parts_in sections)
described bytes parts b match has =
    let s = b.found.spelled in
    let rest = b.rest in
    let place : b.stop.at ≡ 0 + length s.front + length s.back = omega (arith, b.found.at, ap length s.parts, length-append s.front s.back) in
    let bodies = bodies_of_parts rest.sections in
    let items = items_of_parts rest.sections in
    let same_items : items_of parts ≡ items_in rest.sections = ap items_of rest.is ∙ items in
    let same_bodies : bodies_of parts ≡ bodies_in rest.sections = ap bodies_of rest.is ∙ bodies in (
      rest.sections,
      record {
        spelled = record {
          spelled = record {
            front = s.front;
            back = s.back ++ b.stop.rest;
            parts = b.found.parts ∙ ap (λ (l : List ℕ). l ++ b.stop.rest) s.parts ∙ append_assoc s.front s.back b.stop.rest;
            first = s.first;
            second = record { front = s.back; back = b.stop.rest; parts = refl; first = s.second; second = subst (λ (k : ℕ). each_is section_is rest.sections k b.stop.rest) place rest.spelled };
          };
          ordered = rest.ordered;
          counted = subst (λ (l : List Item). agrees (data_count_of l) (segment_count_of l) ≡ true) same_items has.0;
          told = subst (λ (z : List Item × List Body). AreToldOf (data_count_of z.0) z.1) (λ i. (same_items i, same_bodies i)) has.1;
          matched = ap length (sym bodies) ∙ ap (λ (l : List Part). length (bodies_of l)) (sym rest.is) ∙ match ∙ ap (λ (l : List Part). declared_count (items_of l)) rest.is ∙ ap declared_count items;
        };
        kept = record { short = omega (arith, ap length b.found.parts, length-append b.found.taken b.stop.rest, b.found.at, rest.short); each = rest.kept };
      },
      rest.is,
    )

-- a run that is whole describes its module
pub whole_is_described : (bytes : List ℕ) (parts : List Part) → numbers.AreBytes bytes → (seen : Seen) → module_read bytes ≡ record { parts = parts; ending = Whole seen } → (sections : List Section) × AreSectionsOf sections bytes × (parts ≡ parts_in sections)
whole_is_described bytes parts fits seen e =
    let same : (module_read bytes).parts ≡ parts = ap (λ (r : Run). r.parts) e in
    let ends : (module_read bytes).ending ≡ Whole seen = ap (λ (r : Run). r.ending) e in
    described bytes parts (subst (Behind bytes) same (module_found bytes fits seen ends)) (subst (λ (l : List Part). length (bodies_of l) ≡ declared_count (items_of l)) same (bodies_match bytes seen ends)) (subst HasSegments same (segments_agree bytes seen ends, bodies_are_told bytes))

pub whole_ending : (len : ℕ) (ending : Ending) → ending_fault len ending ≡ None → (seen : Seen) × (ending ≡ Whole seen)
whole_ending len (Whole seen) e = (seen, refl)
whole_ending len (Refused r) e = absurd cc
whole_ending len Owed e = absurd cc

-- the items and bodies of a module
pub module_is_described : (bytes : List ℕ) (m : Module) → numbers.AreBytes bytes → IsModule bytes m → (sections : List Section) × AreSectionsOf sections bytes × (m.items ≡ items_in sections) × (m.bodies ≡ bodies_in sections)
module_is_described bytes m fits is =
    let run = module_read bytes in
    let whole = whole_ending (length bytes) run.ending is.whole in
    let d = whole_is_described bytes run.parts fits whole.0 (ap (λ (z : Ending). record { parts = run.parts; ending = z }) whole.1) in (
      d.0,
      d.1,
      is.items ∙ ap items_of d.2 ∙ items_of_parts d.0,
      is.bodies ∙ ap bodies_of d.2 ∙ bodies_of_parts d.0,
    )
