-- What decides after a source's error stays, whatever else would have come.
use Rattle.std.proofs.Common.{◌≡◌, ◌≢◌, ◌≤◌, ◌<◌, ◌⊎◌, inl, inr, ℕ, suc, ◌+◌, List, [], ◌∷◌, ◌++◌, length, Option, Some, None, refl, sym, ap, ◌∙◌, subst, arith, length-append}
use Rattle.wasm_defs.specs.declared.fault.Kind.{Kind}
use Rattle.wasm_defs.specs.declared.fault.Kind.TheVariants.{Malformed, Unsupported, Limit, Invalid, Ended}
use Rattle.wasm_defs.specs.declared.fault.Refusal.{Refusal}
use Rattle.wasm_defs.specs.declared.item.Item.{Item}
use Rattle.wasm_defs.specs.declared.token.Token.{Token}
use Rattle.wasm_defs.specs.Entries.{Seen}
use Rattle.wasm_defs.specs.Typing.{Context}
use Rattle.wasm_defs.specs.Context.{context_of}
use Rattle.wasm_defs.specs.Viable.{IsFaulty}
use Rattle.wasm_defs.specs.Outside.{Part, Section, Listed, Coded, Body, Ending, Whole, Refused, Owed, Run, module_read}
use Rattle.wasm_defs.specs.Faults.{rank, ending_fault, tokens_of, IsCodeFault, Use, Starts, Imports, use_of, use_kind, IsUseFault, IsFaultInside, read_of, context_at, Verdict, Accepted, Rejected}
use Rattle.wasm_laws.specs.Runs.{Becomes}
use Rattle.wasm_laws.specs.Order.{AreOrdered, behind_use, end_of, first_section}
use Rattle.wasm_laws.proofs.Order.{use_goes_on, use_before, parts_before_fault, parts_in_module}
use Rattle.wasm_laws.proofs.Runs.{module_goes_on}
use Rattle.image_linker.specs.ImageOf.{size_of}
use Rattle.image_linker.specs.Judging.{IsTextFault, IsFaultOf, IsVerdictOf, IsStoppedAt, lasting, lasting_fault}
use Rattle.wasm_laws.proofs.PartOrder.{fault_after}
use Rattle.module_stream.proofs.TextFaults.{text_after, text_before}
use Rattle.module_stream.proofs.Once.{before_last, fault_of_once, no_fault_of}
use Rattle.wasm_laws.proofs.BodyKinds.{EndingLasts, body_fault_lasts, module_lasts}

-- ---- kinds

kind_cases : (k : Kind) → (k ≡ Ended) ⊎ (rank k < 4)
kind_cases Malformed = inr (omega arith)
kind_cases Unsupported = inr (omega arith)
kind_cases Limit = inr (omega arith)
kind_cases Invalid = inr (omega arith)
kind_cases Ended = inl refl

pub not_ended : (k : Kind) → rank k < 4 → k ≡ Ended → ⊥
not_ended k h e = let n = ap rank e in omega arith

faulty_kind : (c : Context) (tokens : List Token) (k : Kind) → IsFaulty c tokens k → rank k < 4
faulty_kind c tokens Malformed f = omega arith
faulty_kind c tokens Unsupported f = omega arith
faulty_kind c tokens Limit f = omega arith
faulty_kind c tokens Invalid f = omega arith
faulty_kind c tokens Ended f = absurd f

code_kind : (c : Context) (b : Body) (r : Refusal) → IsCodeFault c (read_of b).code r → rank r.kind < 4
code_kind c b r (inl t) = faulty_kind c (tokens_of t.before ++ t.token ∷ []) r.kind t.faulty
code_kind c b r (inr s) = body_fault_lasts b.counted b.first b.bytes r s.is

use_ranks : (u : Use) → rank (use_kind u) < 4
use_ranks (Starts at index) = omega arith
use_ranks (Imports at index) = omega arith

use_kind_rank : (c : Context) (o : Option Use) (r : Refusal) → IsUseFault c o r → rank r.kind < 4
use_kind_rank c None r f = absurd f
use_kind_rank c (Some u) r f = omega (arith, use_ranks u, ap (λ (s : Refusal). rank s.kind) f.1)

inside_kind : (items : List Item) (k : ℕ) (parts : List Part) (r : Refusal) → IsFaultInside items k parts r → rank r.kind < 4
inside_kind items k [] r f = absurd f
inside_kind items k (Section at position ∷ parts) r f = inside_kind items k parts r f
inside_kind items k (Listed x ∷ parts) r (inl f) = use_kind_rank (context_of items) (use_of x) r f
inside_kind items k (Listed x ∷ parts) r (inr f) = inside_kind (items ++ x ∷ []) k parts r f
inside_kind items k (Coded b ∷ parts) r (inl f) = code_kind (context_at items k b) b r f
inside_kind items k (Coded b ∷ parts) r (inr f) = inside_kind items (suc k) parts r f

text_kind : (items : List Item) (k words : ℕ) (parts : List Part) (r : Refusal) → IsTextFault items k words parts r → rank r.kind < 4
text_kind items k words [] r f = absurd f
text_kind items k words (Section at position ∷ parts) r f = text_kind items k words parts r f
text_kind items k words (Listed x ∷ parts) r f = text_kind (items ++ x ∷ []) k words parts r f
text_kind items k words (Coded b ∷ parts) r (tree, v, inl f) = subst (λ (s : Refusal). rank s.kind < 4) (sym f.1) (omega arith)
text_kind items k words (Coded b ∷ parts) r (tree, v, inr f) = text_kind items (suc k) (words + size_of items k b tree) parts r f.1

-- ---- what Ended is

ending_kind : (n : ℕ) (ending : Ending) (r : Refusal) → EndingLasts ending → ending_fault n ending ≡ Some r → r.kind ≡ Ended → (ending ≡ Owed) × (r.offset ≡ n)
ending_kind n (Whole seen) r lasts e k = absurd cc
ending_kind n (Refused s) r lasts e k = let same : s ≡ r = cc in absurd (not_ended s.kind lasts (ap (λ (x : Refusal). x.kind) same ∙ k))
ending_kind n Owed r lasts e k = let same : record { offset = n; kind = Ended } ≡ r = cc in (refl, sym (ap (λ (x : Refusal). x.offset) same))

pub ended_is_owed : (bytes : List ℕ) (r : Refusal) → IsFaultOf bytes r → r.kind ≡ Ended → ((module_read bytes).ending ≡ Owed) × (r.offset ≡ length bytes)
ended_is_owed bytes r (inl (inl e)) k = ending_kind (length bytes) (module_read bytes).ending r (module_lasts bytes) e k
ended_is_owed bytes r (inl (inr f)) k = absurd (not_ended r.kind (inside_kind [] 0 (module_read bytes).parts r f) k)
ended_is_owed bytes r (inr f) k = absurd (not_ended r.kind (text_kind [] 0 0 (module_read bytes).parts r f) k)

-- ---- the first parts, and the parts after them

front_ordered : (low last : ℕ) (front back : List Part) → AreOrdered low last (front ++ back) → AreOrdered low last front
front_ordered low last [] back o = tt
front_ordered low last (Section at position ∷ front) back o = (o.0, o.1, front_ordered (suc at) last front back o.2)
front_ordered low last (Listed x ∷ front) back o = (o.0, front_ordered (behind_use low (use_of x)) last front back o.1)
front_ordered low last (Coded b ∷ front) back o = (o.0, front_ordered (end_of b) last front back o.1)

-- the first parts end where the others begin
split : (low last : ℕ) (front back : List Part) → AreOrdered low last (front ++ back) → (mid : ℕ) × (low ≤ mid) × AreOrdered low mid front × AreOrdered mid last back
split low last [] back o = (low, omega arith, tt, o)
split low last (Section at position ∷ front) back o = let q = split (suc at) last front back o.2 in (q.0, omega (arith, o.0, q.1), (o.0, omega (arith, q.1), q.2), q.3)
split low last (Listed x ∷ front) back o =
    let q = split (behind_use low (use_of x)) last front back o.1 in
    (q.0, omega (arith, q.1, (use_goes_on low last (use_of x) o.0).0), (use_before low last q.0 (use_of x) o.0 q.1, q.2), q.3)
split low last (Coded b ∷ front) back o =
    let q = split (end_of b) last front back o.1 in
    let stands = o.0 in
    (q.0, omega (arith, stands.from, stands.sized, q.1), (record { from = stands.from; sized = stands.sized; least = stands.least; most = stands.most; before = q.1 }, q.2), q.3)

-- ---- errors of the first parts stay

inside_stays : (items : List Item) (k : ℕ) (front back : List Part) (r : Refusal) → IsFaultInside items k front r → IsFaultInside items k (front ++ back) r
inside_stays items k [] back r f = absurd f
inside_stays items k (Section at position ∷ front) back r f = inside_stays items k front back r f
inside_stays items k (Listed x ∷ front) back r (inl f) = inl f
inside_stays items k (Listed x ∷ front) back r (inr f) = inr (inside_stays (items ++ x ∷ []) k front back r f)
inside_stays items k (Coded b ∷ front) back r (inl f) = inl f
inside_stays items k (Coded b ∷ front) back r (inr f) = inr (inside_stays items (suc k) front back r f)

pub text_stays : (items : List Item) (k words : ℕ) (front back : List Part) (r : Refusal) → IsTextFault items k words front r → IsTextFault items k words (front ++ back) r
text_stays items k words [] back r f = absurd f
text_stays items k words (Section at position ∷ front) back r f = text_stays items k words front back r f
text_stays items k words (Listed x ∷ front) back r f = text_stays (items ++ x ∷ []) k words front back r f
text_stays items k words (Coded b ∷ front) back r (tree, v, inl f) = (tree, v, inl f)
text_stays items k words (Coded b ∷ front) back r (tree, v, inr f) = (tree, v, inr (f.0, text_stays items (suc k) (words + size_of items k b tree) front back r f.1))

-- ---- an error is one of the first parts, or of those after

inside_splits : (items : List Item) (k : ℕ) (front back : List Part) (r : Refusal) → IsFaultInside items k (front ++ back) r → IsFaultInside items k front r ⊎ ((xs : List Item) × (n : ℕ) × IsFaultInside xs n back r)
inside_splits items k [] back r f = inr (items, k, f)
inside_splits items k (Section at position ∷ front) back r f = inside_splits items k front back r f
inside_splits items k (Listed x ∷ front) back r (inl f) = inl (inl f)
inside_splits items k (Listed x ∷ front) back r (inr f) = elim (inside_splits (items ++ x ∷ []) k front back r f) [ inl g ↦ inl (inr g) | inr g ↦ inr g ]
inside_splits items k (Coded b ∷ front) back r (inl f) = inl (inl f)
inside_splits items k (Coded b ∷ front) back r (inr f) = elim (inside_splits items (suc k) front back r f) [ inl g ↦ inl (inr g) | inr g ↦ inr g ]

pub text_splits : (items : List Item) (k words : ℕ) (front back : List Part) (r : Refusal) → IsTextFault items k words (front ++ back) r → IsTextFault items k words front r ⊎ ((xs : List Item) × (n m : ℕ) × IsTextFault xs n m back r)
text_splits items k words [] back r f = inr (items, k, words, f)
text_splits items k words (Section at position ∷ front) back r f = text_splits items k words front back r f
text_splits items k words (Listed x ∷ front) back r f = text_splits (items ++ x ∷ []) k words front back r f
text_splits items k words (Coded b ∷ front) back r (tree, v, inl f) = inl (tree, v, inl f)
text_splits items k words (Coded b ∷ front) back r (tree, v, inr f) =
    elim (text_splits items (suc k) (words + size_of items k b tree) front back r f.1) [ inl g ↦ inl (tree, v, inr (f.0, g)) | inr g ↦ inr g ]

-- ---- runs

-- an error of a module with this run, of so many bytes
abbrev IsFaultIn : ℕ → Run → Refusal → Type 0
IsFaultIn n run r = ((ending_fault n run.ending ≡ Some r) ⊎ IsFaultInside [] 0 run.parts r) ⊎ IsTextFault [] 0 0 run.parts r

abbrev run_of : List Part → Ending → Run
run_of parts ending = record { parts = parts; ending = ending }

-- this run isn't refused: at most more bytes are owed
abbrev IsOpen : ℕ → Ending → Type 0
IsOpen n ending = (s : Refusal) → ending_fault n ending ≡ Some s → s ≡ record { offset = n; kind = Ended }

whole_open : (n : ℕ) (seen : Seen) → IsOpen n (Whole seen)
whole_open n seen s e = absurd cc

owed_open : (n : ℕ) → IsOpen n Owed
owed_open n s e = let same : record { offset = n; kind = Ended } ≡ s = cc in sym same

never : (n : ℕ) (ending : Ending) (r : Refusal) → IsOpen n ending → r.kind ≢ Ended → ending_fault n ending ≡ Some r → ⊥
never n ending r open_is other e = other (ap (λ (s : Refusal). s.kind) (open_is r e))

-- ---- what stays

module _ (n m : ℕ) (parts : List Part) (ending : Ending) (later : Run) (tail : List Part) (le : n ≤ m) (grown : later.parts ≡ parts ++ tail) (open_is : IsOpen n ending) where
  open_stays : (r : Refusal) → IsFaultIn n (run_of parts ending) r → r.kind ≢ Ended → IsFaultIn m later r
  open_stays r (inl (inl e)) other = absurd (never n ending r open_is other e)
  open_stays r (inl (inr f)) other = inl (inr (subst (λ (l : List Part). IsFaultInside [] 0 l r) (sym grown) (inside_stays [] 0 parts tail r f)))
  open_stays r (inr f) other = inr (subst (λ (l : List Part). IsTextFault [] 0 0 l r) (sym grown) (text_stays [] 0 0 parts tail r f))

  -- the errors that were there are before that offset, if the parts are
  front_before : (last : ℕ) (r : Refusal) → AreOrdered first_section last parts → IsFaultIn n (run_of parts ending) r → r.kind ≢ Ended → r.offset ≤ last
  front_before last r o (inl (inl e)) other = absurd (never n ending r open_is other e)
  front_before last r o (inl (inr f)) other = let h = before_last first_section last [] 0 parts r o f in omega arith
  front_before last r o (inr f) other = let h = text_before first_section last [] 0 0 parts r o f in omega arith

  open_later : (s : Refusal) → AreOrdered first_section m later.parts → ((t : Refusal) → ending_fault m later.ending ≡ Some t → AreOrdered first_section t.offset later.parts) → IsFaultIn m later s
      → IsFaultIn n (run_of parts ending) s ⊎ ((r : Refusal) → IsFaultIn n (run_of parts ending) r → r.kind ≢ Ended → r.offset ≤ s.offset)
  open_later s all before f = of f
    where
      q : (mid : ℕ) × (first_section ≤ mid) × AreOrdered first_section mid parts × AreOrdered mid m tail
      q = split first_section m parts tail (subst (λ (l : List Part). AreOrdered first_section m l) grown all)

      behind : q.0 ≤ s.offset → (r : Refusal) → IsFaultIn n (run_of parts ending) r → r.kind ≢ Ended → r.offset ≤ s.offset
      behind le r f other = let h = front_before q.0 r q.2 f other in omega arith

      of : IsFaultIn m later s → IsFaultIn n (run_of parts ending) s ⊎ ((r : Refusal) → IsFaultIn n (run_of parts ending) r → r.kind ≢ Ended → r.offset ≤ s.offset)
      of (inl (inl e)) = inr (λ r f other. front_before s.offset r (front_ordered first_section s.offset parts tail (subst (λ (l : List Part). AreOrdered first_section s.offset l) grown (before s e))) f other)
      of (inl (inr f)) = elim (inside_splits [] 0 parts tail s (subst (λ (l : List Part). IsFaultInside [] 0 l s) grown f)) [
        | inl g ↦ inl (inl (inr g))
        | inr g ↦ inr (behind (fault_after q.0 m g.0 g.1 tail s q.3 g.2))
      ]
      of (inr f) = elim (text_splits [] 0 0 parts tail s (subst (λ (l : List Part). IsTextFault [] 0 0 l s) grown f)) [
        | inl g ↦ inl (inr g)
        | inr g ↦ inr (behind (text_after q.0 m g.0 g.1 g.2 tail s q.3 g.3))
      ]

stays : (n m : ℕ) (parts : List Part) (ending : Ending) (later : Run) (r : Refusal) → n ≤ m → Becomes parts ending later → IsFaultIn n (run_of parts ending) r → r.kind ≢ Ended → IsFaultIn m later r
stays n m parts (Whole seen) later r le goes f other = open_stays n m parts (Whole seen) later goes.0 le goes.1 (whole_open n seen) r f other
stays n m parts (Refused s) later r le goes f other = subst (λ (x : Run). IsFaultIn m x r) (sym goes) f
stays n m parts Owed later r le goes f other = open_stays n m parts Owed later goes.0 le goes.1 (owed_open n) r f other

-- an error that comes later is none before those that are there
comes : (n m : ℕ) (parts : List Part) (ending : Ending) (later : Run) (s : Refusal) → n ≤ m → Becomes parts ending later → AreOrdered first_section m later.parts
    → ((t : Refusal) → ending_fault m later.ending ≡ Some t → AreOrdered first_section t.offset later.parts) → IsFaultIn m later s → IsFaultIn n (run_of parts ending) s ⊎ ((r : Refusal) → IsFaultIn n (run_of parts ending) r → r.kind ≢ Ended → r.offset ≤ s.offset)
comes n m parts (Whole seen) later s le goes all before f = open_later n m parts (Whole seen) later goes.0 le goes.1 (whole_open n seen) s all before f
comes n m parts (Refused t) later s le goes all before f = inl (subst (λ (x : Run). IsFaultIn m x s) goes f)
comes n m parts Owed later s le goes all before f = open_later n m parts Owed later goes.0 le goes.1 (owed_open n) s all before f

-- ---- the laws

pub fault_stays : (bytes more : List ℕ) (r : Refusal) → IsFaultOf bytes r → r.kind ≢ Ended → IsFaultOf (bytes ++ more) r
fault_stays bytes more r f other =
    let run = module_read bytes in
    stays (length bytes) (length (bytes ++ more)) run.parts run.ending (module_read (bytes ++ more)) r (omega (arith, length-append bytes more)) (module_goes_on bytes more) f other

fault_within : (bytes : List ℕ) (r : Refusal) → IsFaultOf bytes r → r.offset ≤ length bytes
fault_within bytes r (inl (inl e)) = (parts_before_fault bytes r e).1
fault_within bytes r (inl (inr f)) = let h = before_last first_section (length bytes) [] 0 (module_read bytes).parts r (parts_in_module bytes) f in omega arith
fault_within bytes r (inr f) = let h = text_before first_section (length bytes) [] 0 0 (module_read bytes).parts r (parts_in_module bytes) f in omega arith

least : (bytes more : List ℕ) (r s : Refusal) → IsStoppedAt bytes (Some r) → IsFaultOf (bytes ++ more) s → r.offset ≤ s.offset
least bytes more r s p f =
    elim (kind_cases s.kind) [
      | inl k ↦
          let ended = ended_is_owed (bytes ++ more) s f k in
          omega (arith, ended.1, fault_within bytes r p.0, length-append bytes more)
      | inr k ↦
          let run = module_read bytes in
          elim (comes (length bytes) (length (bytes ++ more)) run.parts run.ending (module_read (bytes ++ more)) s (omega (arith, length-append bytes more)) (module_goes_on bytes more) (parts_in_module (bytes ++ more)) (λ t e. (parts_before_fault (bytes ++ more) t e).0) f) [
            | inl g ↦ p.2 s g (not_ended s.kind k)
            | inr g ↦ g r p.0 p.1
          ]
    ]

pub stopped_stays : (bytes more : List ℕ) (r : Refusal) → IsStoppedAt bytes (Some r) → IsStoppedAt (bytes ++ more) (Some r)
stopped_stays bytes more r p = (fault_stays bytes more r p.0 p.1, p.1, λ s f other. least bytes more r s p f)

pub stopped_decides : (bytes more : List ℕ) (r : Refusal) → IsStoppedAt bytes (Some r) → IsVerdictOf (bytes ++ more) (Rejected r)
stopped_decides bytes more r p = (fault_stays bytes more r p.0 p.1, λ s f. least bytes more r s p f)

pub stopped_once : (bytes : List ℕ) (a b : Option Refusal) → IsStoppedAt bytes a → IsStoppedAt bytes b → a ≡ b
stopped_once bytes None None p q = refl
stopped_once bytes None (Some s) p q = absurd (q.1 (p s q.0))
stopped_once bytes (Some r) None p q = absurd (p.1 (q r p.0))
stopped_once bytes (Some r) (Some s) p q =
    let same : r.offset ≡ s.offset = omega (arith, p.2 s q.0 q.1, q.2 r p.0 p.1) in
    ap (λ (x : Refusal). Some x) (fault_of_once bytes r s p.0 q.0 same)

-- the error of least offset, by its kind
told_of : (bytes : List ℕ) (r : Refusal) (k : Kind) → r.kind ≡ k → IsVerdictOf bytes (Rejected r) → IsStoppedAt bytes (lasting k r)
told_of bytes r Malformed e p = (p.0, (λ h. not_ended Malformed (omega arith) (sym e ∙ h)), λ s f other. p.1 s f)
told_of bytes r Unsupported e p = (p.0, (λ h. not_ended Unsupported (omega arith) (sym e ∙ h)), λ s f other. p.1 s f)
told_of bytes r Limit e p = (p.0, (λ h. not_ended Limit (omega arith) (sym e ∙ h)), λ s f other. p.1 s f)
told_of bytes r Invalid e p = (p.0, (λ h. not_ended Invalid (omega arith) (sym e ∙ h)), λ s f other. p.1 s f)
told_of bytes r Ended e p = λ s f.
    let at = (ended_is_owed bytes r p.0 e).1 in
    let same : r.offset ≡ s.offset = omega (arith, at, p.1 s f, fault_within bytes s f) in
    ap (λ (x : Refusal). x.kind) (sym (fault_of_once bytes r s p.0 f same)) ∙ e

pub stopped_of_verdict : (bytes : List ℕ) (v : Verdict) → IsVerdictOf bytes v → IsStoppedAt bytes (lasting_fault v)
stopped_of_verdict bytes (Accepted m) p = λ r f. absurd (no_fault_of bytes m r p f)
stopped_of_verdict bytes (Rejected r) p = told_of bytes r r.kind refl p
