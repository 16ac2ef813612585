-- Where errors follow an offset.
use Rattle.std.proofs.Common.{◌≡◌, ◌≤◌, ◌<◌, inl, inr, ℕ, suc, List, [], ◌∷◌, ◌++◌, Option, None, Some, ap, sym, ◌∙◌, arith}
use Rattle.wasm_defs.specs.declared.fault.Refusal.{Refusal}
use Rattle.wasm_defs.specs.declared.item.Item.{Item}
use Rattle.wasm_defs.specs.Outside.{Part, Section, Listed, Coded}
use Rattle.wasm_defs.specs.Typing.{Context}
use Rattle.wasm_defs.specs.Context.{context_of}
use Rattle.wasm_defs.specs.Faults.{context_at, Use, use_of, IsUseFault, IsFaultInside}
use Rattle.wasm_laws.specs.Order.{UseStands, behind_use, AreOrdered, end_of}
use Rattle.wasm_laws.proofs.Order.{use_goes_on}
use Rattle.wasm_laws.proofs.Verdicts.{code_fault_inside}

-- the error of an item's use is at its index, before what comes after
pub use_fault_stands : (low last : ℕ) (c : Context) (o : Option Use) (r : Refusal) → UseStands low last o → IsUseFault c o r → (low ≤ r.offset) × (r.offset < behind_use low o)
use_fault_stands low last c None r p f = absurd f
use_fault_stands low last c (Some u) r p f = let at = ap (λ (s : Refusal). s.offset) f.1 in (omega (arith, p.0, at), omega (arith, at))

-- there is one at most
pub use_once : (c : Context) (o : Option Use) (r s : Refusal) → IsUseFault c o r → IsUseFault c o s → r ≡ s
use_once c None r s f g = absurd f
use_once c (Some u) r s f g = f.1 ∙ sym g.1

pub fault_after : (low last : ℕ) (items : List Item) (k : ℕ) (parts : List Part) (r : Refusal) → AreOrdered low last parts → IsFaultInside items k parts r → low ≤ r.offset
fault_after low last items k [] r o f = absurd f
fault_after low last items k (Section at id ∷ parts) r o f = let h = fault_after (suc at) last items k parts r o.2 f in omega (arith, o.0)
fault_after low last items k (Listed x ∷ parts) r o (inl f) = (use_fault_stands low last (context_of items) (use_of x) r o.0 f).0
fault_after low last items k (Listed x ∷ parts) r o (inr f) =
    let h = fault_after (behind_use low (use_of x)) last (items ++ x ∷ []) k parts r o.1 f in
    omega (arith, h, (use_goes_on low last (use_of x) o.0).0)
fault_after low last items k (Coded b ∷ parts) r o (inl f) =
    let stands = o.0 in
    let h = code_fault_inside (context_at items k b) b r (omega (arith, stands.least)) f in
    omega (arith, h.0, stands.from, stands.sized)
fault_after low last items k (Coded b ∷ parts) r o (inr f) =
    let stands = o.0 in
    let h = fault_after (end_of b) last items (suc k) parts r o.1 f in
    omega (arith, stands.from, stands.sized)
