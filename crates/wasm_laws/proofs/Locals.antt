-- Bodies keep to the limits on their bytes and on their locals.
use Rattle.std.proofs.Common.{Bool, ◌≡◌, ℕ, zero, suc, ◌+◌, ◌≤◌, List, [], ◌∷◌, replicate, length, arith, length-append, inl, inr}
use Rattle.std.proofs.Math.ListN.{length-replicate}
use Rattle.std.proofs.lemmas.Bool.{cases_lt, lt-ltb, le-ltb}
use Rattle.wasm_defs.specs.Bodies.{Group, group, groups, local_groups, body_cursor, last_of, read_code, body_read}
use Rattle.wasm_defs.specs.Context.{declared_types}
use Rattle.wasm_defs.specs.Entries.{value_type}
use Rattle.wasm_defs.specs.Faults.{bodies_of, use_of}
use Rattle.wasm_defs.specs.Fields.{Cursor, Read, Got, Fault, Wants, u32}
use Rattle.wasm_defs.specs.Limits.{max_locals}
use Rattle.wasm_defs.specs.Outside.{Part, Section, Listed, Coded, module_read}
use Rattle.wasm_laws.specs.Kept.{LocalsAreFew, BodiesAreSmall}
use Rattle.wasm_laws.specs.Order.{AreOrdered, behind_use, end_of, first_section}
use Rattle.wasm_laws.proofs.Order.{parts_in_module}
use Rattle.wasm_laws.proofs.Parts.{then_got}
use Rattle.wasm_laws.proofs.Steady.{IfGot, always}

-- ---- locals

pub group_fits : (declared : ℕ) (c : Cursor) → IfGot (λ g d. declared + g.count ≤ max_locals) (group declared c)
unfolding group
group_fits declared c =
    then_got (λ n d. Unit {0}) (λ g d. declared + g.count ≤ max_locals) (u32 c) _ (always (u32 c))
    (λ n d t.
    elim (cases_lt max_locals (declared + n.1)) [
      | inl over ↦ rw (lt-ltb max_locals (declared + n.1) over) tt
      | inr fits ↦ rw (le-ltb max_locals (declared + n.1) fits) (then_got (λ ty e. Unit {0}) (λ g e. declared + g.count ≤ max_locals) (value_type d) _ (always (value_type d)) (λ ty e t. fits))
    ])

pub types_cons : (g : Group) (gs : List Group) → length (declared_types (g ∷ gs)) ≡ g.count + length (declared_types gs)
types_cons g gs = omega (arith, length-append (replicate g.count g.ty) (declared_types gs), length-replicate g.count g.ty)

groups_fit : (n declared : ℕ) (c : Cursor) → declared ≤ max_locals → IfGot (λ gs d. declared + length (declared_types gs) ≤ max_locals) (groups n declared c)
groups_fit zero declared c le = omega arith
groups_fit (suc n) declared c le =
    then_got (λ g d. declared + g.count ≤ max_locals) (λ gs d. declared + length (declared_types gs) ≤ max_locals) (group declared c) _ (group_fits declared c)
    (λ g d fits.
    then_got (λ gs e. declared + g.count + length (declared_types gs) ≤ max_locals) (λ gs e. declared + length (declared_types gs) ≤ max_locals) (groups n (declared + g.count) d) _ (groups_fit n (declared + g.count) d fits)
    (λ gs e h. omega (arith, h, types_cons g gs)))

locals_fit : (c : Cursor) → IfGot (λ gs d. LocalsAreFew gs) (local_groups c)
unfolding local_groups
locals_fit c =
    then_got (λ n d. Unit {0}) (λ gs d. LocalsAreFew gs) (u32 c) _ (always (u32 c))
    (λ n d t.
    fitting (groups n.1 0 d) (groups_fit n.1 0 d (omega arith)))
  where
    fitting : (x : Read (List Group)) → IfGot (λ gs d. 0 + length (declared_types gs) ≤ max_locals) x → IfGot (λ gs d. LocalsAreFew gs) x
    fitting (Got gs d) h = omega (arith, h)
    fitting (Fault r) h = tt
    fitting Wants h = tt

read_fits : (counted : Bool) (last n : ℕ) (x : Read (List Group)) → IfGot (λ gs d. LocalsAreFew gs) x → LocalsAreFew (read_code counted last x n).groups
read_fits counted last n (Got gs d) h = h
read_fits counted last n (Fault r) h = omega arith
read_fits counted last n Wants h = omega arith

pub locals_are_few : (counted : Bool) (first : ℕ) (bytes : List ℕ) → LocalsAreFew (body_read counted first bytes).groups
locals_are_few counted first bytes = let c = body_cursor first bytes in read_fits counted (last_of first bytes) (length bytes + 1) (local_groups c) (locals_fit c)

-- ---- bodies

ordered_are_small : (low last : ℕ) (parts : List Part) → AreOrdered low last parts → BodiesAreSmall (bodies_of parts)
ordered_are_small low last [] h = tt
ordered_are_small low last (Section at id ∷ parts) h = ordered_are_small (suc at) last parts h.2
ordered_are_small low last (Listed x ∷ parts) h = ordered_are_small (behind_use low (use_of x)) last parts h.1
ordered_are_small low last (Coded b ∷ parts) h =
    let stands = h.0 in
    (record { least = stands.least; most = stands.most; locals = locals_are_few b.counted b.first b.bytes }, ordered_are_small (end_of b) last parts h.1)

pub bodies_are_small : (bytes : List ℕ) → BodiesAreSmall (bodies_of (module_read bytes).parts)
bodies_are_small bytes = ordered_are_small first_section (length bytes) (module_read bytes).parts (parts_in_module bytes)
