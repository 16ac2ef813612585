-- Where the groups of locals are wrong, the error is at the first field that isn't encoded.
use Rattle.std.proofs.Common.{◌≡◌, ◌≤◌, inl, inr, ℕ, zero, suc, ◌+◌, Bool, true, false, cond, nat_le, eqb, ◌||◌, List, [], ◌∷◌, ◌++◌, length, Some, refl, sym, ap, subst, ◌∙◌, append_assoc, arith, length-append}
use Rattle.std.proofs.lemmas.Bool.{cases_lt, lt-ltb, le-ltb}
use Rattle.wasm_defs.proofs.NumberLaws.{AreBytes}
use Rattle.wasm_defs.specs.declared.fault.Kind.TheVariants.{Malformed, Unsupported, Limit}
use Rattle.wasm_defs.specs.declared.fault.Refusal.{Refusal}
use Rattle.wasm_defs.specs.declared.types.ValType.{ValType}
use Rattle.wasm_defs.specs.declared.types.ValType.TheVariants.{I32, I64}
use Rattle.wasm_defs.specs.Limits.{max_locals}
use Rattle.wasm_defs.specs.Fields.{Cursor, Read, Got, Fault, Wants, Reader, then_go, done, refused, room_of, window, past, first_of, byte, u32}
use Rattle.wasm_defs.specs.Entries.{value_type}
use Rattle.wasm_defs.specs.Items.{each_is, type_is, listed_type_is, listed_index_is}
use Rattle.wasm_defs.specs.Bodies.{Group, group, groups, local_groups, stops, body_cursor, last_of, no_code, read_code, body_read}
use Rattle.wasm_defs.specs.Codes.{listed_vector_is, group_is}
use Rattle.wasm_defs.specs.Context.{declared_types}
use Rattle.wasm_laws.specs.Kept.{LocalsAreFew}
use Rattle.wasm_laws.proofs.Steady.{IfGot}
use Rattle.wasm_laws.proofs.Locals.{group_fits, types_cons, locals_are_few}
use Rattle.wasm_laws.proofs.Spelt.{cursor, Ready, Found, later}
use Rattle.wasm_laws.proofs.SpeltParts.{value_type_spelt}
use Rattle.body_laws.specs.WrongFields.{IsWrong}
use Rattle.body_laws.specs.WrongLocals.{IsWrongGroup, AreWrong, AreLocalsWrong, BeginNoLocals}
use Rattle.body_laws.proofs.SpeltCodes.{group_found, locals_found}
use Rattle.body_laws.proofs.WrongFields.{IfStops, stops_then, stops_as, Fits, fits_behind, got_of, read_wrong, fault_at, cut_place, index_stops, index_found}

-- ---- the type of a group

abbrev typed : ℕ → ValType → Reader (ℕ × ValType)
typed at ty = done (at, ty)

type_tested : (at : ℕ) (d : Cursor) (r : Refusal) (first second third : Bool) → cond first (typed at I32) (cond second (typed at I64) (cond third (refused Unsupported at) (refused Malformed at))) d ≡ Fault r → r.offset ≡ at
type_tested at d r true second third e = absurd cc
type_tested at d r false true third e = absurd cc
type_tested at d r false false true e = fault_at at (record { offset = at; kind = Unsupported }) r refl e
type_tested at d r false false false e = fault_at at (record { offset = at; kind = Malformed }) r refl e

type_place : (c : Cursor) (r : Refusal) → value_type c ≡ Fault r → r.offset ≡ c.at
unfolding value_type byte
type_place c r e = of (window c) e
  where
    test : ℕ × ℕ → Reader (ℕ × ValType)
    test b = cond (eqb b.1 0x7F) (typed b.0 I32) (cond (eqb b.1 0x7E) (typed b.0 I64) (cond (eqb b.1 0x7D || eqb b.1 0x7C) (refused Unsupported b.0) (refused Malformed b.0)))

    of : (w : List ℕ) → then_go (first_of c w) test ≡ Fault r → r.offset ≡ c.at
    of [] e = cut_place (nat_le (room_of c) (length c.rest)) c test r e
    of (b ∷ w) e = type_tested c.at (past c 1) r (eqb b 0x7F) (eqb b 0x7E) (eqb b 0x7D || eqb b 0x7C) e

type_stops : (last : ℕ) (c : Cursor) → Fits c → IfStops (IsWrong listed_type_is c.at c.rest last) last (value_type c)
type_stops last c fits = read_wrong listed_type_is value_type last c (λ ty front back e s. ((c.at, ty), cursor (c.at + length front) back c.end, got_of value_type (c.at, ty) (type_is (c.at, ty)) c fits (value_type_spelt.complete (c.at, ty) tt) front back e (refl, s))) (type_place c)

-- ---- groups

group_stops : (declared last : ℕ) (c : Cursor) → Ready c → Fits c → IfStops (IsWrongGroup declared c.at c.rest last) last (group declared c)
unfolding group
group_stops declared last c ready fits =
    stops_then (IsWrongGroup declared c.at c.rest last) last (u32 c) _ (stops_as (IsWrong listed_index_is c.at c.rest last) (IsWrongGroup declared c.at c.rest last) last (u32 c) (λ r w. inl w) (index_stops last c fits)) (λ n d e.
    let found = index_found c n d ready e in
    elim (cases_lt max_locals (declared + n.1)) [
      | inl over ↦ rw (lt-ltb max_locals (declared + n.1) over) (inr (record { count = n.1; front = found.taken; back = d.rest; parts = found.parts; spelled = found.spelled.1; wrong = inl (over, ap (λ (o : ℕ). record { offset = o; kind = Limit }) found.spelled.0) }))
      | inr within ↦ rw (le-ltb max_locals (declared + n.1) within) (
          stops_then (IsWrongGroup declared c.at c.rest last) last (value_type d) _ (stops_as (IsWrong listed_type_is d.at d.rest last) (IsWrongGroup declared c.at c.rest last) last (value_type d) (λ r w.
          inr (record { count = n.1; front = found.taken; back = d.rest; parts = found.parts; spelled = found.spelled.1; wrong = inr (within, subst (λ (o : ℕ). IsWrong listed_type_is o d.rest last r) found.at w) })) (type_stops last d (fits_behind c d found fits))) (λ ty e k. tt)
          )
    ])

-- the first one is
first_wrong : (n declared last : ℕ) (c : Cursor) (r : Refusal) → declared ≤ max_locals → IsWrongGroup declared c.at c.rest last r → AreWrong (suc n) declared c.at c.rest last r
first_wrong n declared last c r le w =
    let none : declared ≡ declared + 0 = omega arith in
    let here : c.at ≡ c.at + 0 = omega arith in
    record {
      groups = [];
      front = [];
      back = c.rest;
      parts = refl;
      spelled = refl;
      fewer = omega arith;
      few = omega arith;
      wrong = subst (λ (m : ℕ). IsWrongGroup m (c.at + 0) c.rest last r) none (subst (λ (o : ℕ). IsWrongGroup declared o c.rest last r) here w);
    }

-- one is right, and of those after it one isn't
later_wrong : (n declared last : ℕ) (c d : Cursor) (g : Group) (r : Refusal) → Found (group_is g) (Unit {0}) c d → AreWrong n (declared + g.count) d.at d.rest last r → AreWrong (suc n) declared c.at c.rest last r
later_wrong n declared last c d g r found w =
    let types = types_cons g w.groups in
    let locals : declared + g.count + length (declared_types w.groups) ≡ declared + length (declared_types (g ∷ w.groups)) = omega (arith, types) in
    let here : d.at + length w.front ≡ c.at + length (found.taken ++ w.front) = omega (arith, found.at, length-append found.taken w.front) in
    record {
      groups = g ∷ w.groups;
      front = found.taken ++ w.front;
      back = w.back;
      parts = found.parts ∙ ap (λ (l : List ℕ). found.taken ++ l) w.parts ∙ sym (append_assoc found.taken w.front w.back);
      spelled = record { front = found.taken; back = w.front; parts = refl; first = found.spelled; second = subst (λ (o : ℕ). each_is group_is w.groups o w.front) found.at w.spelled };
      fewer = omega (arith, w.fewer);
      few = omega (arith, w.few, types);
      wrong = subst (λ (m : ℕ). IsWrongGroup m (c.at + length (found.taken ++ w.front)) w.back last r) locals
          (subst (λ (o : ℕ). IsWrongGroup (declared + g.count + length (declared_types w.groups)) o w.back last r) here w.wrong);
    }

groups_stop : (n declared last : ℕ) (c : Cursor) → declared ≤ max_locals → Ready c → Fits c → IfStops (AreWrong n declared c.at c.rest last) last (groups n declared c)
groups_stop zero declared last c le ready fits = tt
groups_stop (suc n) declared last c le ready fits =
    let P : Refusal → Type 0 = AreWrong (suc n) declared c.at c.rest last in
    stops_then P last (group declared c) _ (stops_as (IsWrongGroup declared c.at c.rest last) P last (group declared c) (λ r w. first_wrong n declared last c r le w) (group_stops declared last c ready fits)) (λ g d e.
    let found : Found (group_is g) (Unit {0}) c d = subst (IfGot (λ (g : Group) (d : Cursor). Found (group_is g) (Unit {0}) c d)) e (group_found declared c ready) in
    let within : declared + g.count ≤ max_locals = subst (IfGot (λ (g : Group) (d : Cursor). declared + g.count ≤ max_locals)) e (group_fits declared c) in
    stops_then P last (groups n (declared + g.count) d) _ (stops_as (AreWrong n (declared + g.count) d.at d.rest last) P last (groups n (declared + g.count) d) (λ r w. later_wrong n declared last c d g r found w) (groups_stop n (declared + g.count) last d within (later c d found ready) (fits_behind c d found fits))) (λ gs f k. tt))

locals_stop : (last : ℕ) (c : Cursor) → Ready c → Fits c → IfStops (AreLocalsWrong c.at c.rest last) last (local_groups c)
unfolding local_groups
locals_stop last c ready fits =
    stops_then (AreLocalsWrong c.at c.rest last) last (u32 c) _ (stops_as (IsWrong listed_index_is c.at c.rest last) (AreLocalsWrong c.at c.rest last) last (u32 c) (λ r w. inl w) (index_stops last c fits)) (λ n d e.
    let found = index_found c n d ready e in
    stops_as (AreWrong n.1 0 d.at d.rest last) (AreLocalsWrong c.at c.rest last) last (groups n.1 0 d) (λ r w.
    inr (record { count = n.1; front = found.taken; back = d.rest; parts = found.parts; spelled = found.spelled.1; wrong = subst (λ (o : ℕ). AreWrong n.1 0 o d.rest last r) found.at w })) (groups_stop n.1 0 last d (omega arith) (later c d found ready) (fits_behind c d found fits)))

-- ---- bodies

pub wrong_locals : (counted : Bool) (first : ℕ) (bytes : List ℕ) → AreBytes bytes → BeginNoLocals first bytes → (r : Refusal) × (body_read counted first bytes ≡ no_code (stops (Some r))) × AreLocalsWrong first bytes (last_of first bytes) r
wrong_locals counted first bytes are none = of (local_groups c) refl
  where
    c : Cursor
    c = body_cursor first bytes

    last : ℕ
    last = last_of first bytes

    ready : Ready c
    ready = record { low = omega arith; bytes = are }

    stop : (x : Read (List Group)) → local_groups c ≡ x → IfStops (AreLocalsWrong first bytes last) last x
    stop x e = subst (IfStops (AreLocalsWrong first bytes last) last) e (locals_stop last c ready (omega arith))

    of : (x : Read (List Group)) → local_groups c ≡ x → (r : Refusal) × (body_read counted first bytes ≡ no_code (stops (Some r))) × AreLocalsWrong first bytes last r
    of (Got gs d) e =
        let found : Found (listed_vector_is group_is gs) (Unit {0}) c d = subst (IfGot (λ (gs : List Group) (d : Cursor). Found (listed_vector_is group_is gs) (Unit {0}) c d)) e (locals_found c ready) in
        let few : LocalsAreFew gs = subst LocalsAreFew (ap (λ (x : Read (List Group)). (read_code counted last x (length bytes + 1)).groups) e) (locals_are_few counted first bytes) in
        absurd (none gs found.taken d.rest found.parts found.spelled few)
    of (Fault r) e = (r, ap (λ (x : Read (List Group)). read_code counted last x (length bytes + 1)) e, stop (Fault r) e)
    of Wants e = (record { offset = last; kind = Malformed }, ap (λ (x : Read (List Group)). read_code counted last x (length bytes + 1)) e, stop Wants e)
