-- Where the wrong token is among tokens of which the first ones begin a valid body.
use Rattle.std.proofs.Common.{◌≡◌, ℕ, ◌⊎◌, inl, inr, List, [], ◌∷◌, ◌++◌, refl, sym, ap, subst, ◌∙◌, append_assoc}
use Rattle.std.proofs.lemmas.List.{append-nil}
use Rattle.wasm_defs.specs.declared.fault.Kind.{Kind}
use Rattle.wasm_defs.specs.declared.fault.Kind.TheVariants.{Malformed, Unsupported, Limit, Invalid, Ended}
use Rattle.wasm_defs.specs.declared.fault.Refusal.{Refusal}
use Rattle.wasm_defs.specs.declared.token.Token.{Token}
use Rattle.wasm_defs.specs.Typing.{Context}
use Rattle.wasm_defs.specs.Viable.{IsGrammatical, IsViable, IsFaulty}
use Rattle.wasm_defs.specs.Faults.{tokens_of, IsTokenFault}

pub viable_front : (c : Context) (xs ys : List Token) → IsViable c (xs ++ ys) → IsViable c xs
viable_front c xs ys h = (ys ++ h.0, h.1, sym (append_assoc xs ys h.0) ∙ h.2, h.3)

grammatical_front : (c : Context) (xs ys : List Token) → IsViable c (xs ++ ys) → IsGrammatical xs
grammatical_front c xs ys h = (ys ++ h.0, h.1, sym (append_assoc xs ys h.0) ∙ h.2)

-- a wrong token is no part of a prefix of a valid body
pub faulty_front : (c : Context) (xs ys : List Token) (kind : Kind) → IsFaulty c xs kind → IsViable c (xs ++ ys) → ⊥
faulty_front c xs ys Malformed f h = f (grammatical_front c xs ys h)
faulty_front c xs ys Unsupported f h = f
faulty_front c xs ys Limit f h = f
faulty_front c xs ys Invalid f h = f.1 (viable_front c xs ys h)
faulty_front c xs ys Ended f h = f

-- a token is wrong in one way
pub faulty_once : (c : Context) (xs : List Token) (j k : Kind) → IsFaulty c xs j → IsFaulty c xs k → j ≡ k
faulty_once c xs Malformed Malformed f g = refl
faulty_once c xs Malformed Invalid f g = absurd (f g.0)
faulty_once c xs Invalid Malformed f g = absurd (g f.0)
faulty_once c xs Invalid Invalid f g = refl
faulty_once c xs Malformed Unsupported f g = absurd g
faulty_once c xs Malformed Limit f g = absurd g
faulty_once c xs Malformed Ended f g = absurd g
faulty_once c xs Invalid Unsupported f g = absurd g
faulty_once c xs Invalid Limit f g = absurd g
faulty_once c xs Invalid Ended f g = absurd g
faulty_once c xs Unsupported k f g = absurd f
faulty_once c xs Limit k f g = absurd f
faulty_once c xs Ended k f g = absurd f

pub tokens_of-append : (xs ys : List (ℕ × Token)) → tokens_of (xs ++ ys) ≡ tokens_of xs ++ tokens_of ys
tokens_of-append [] ys = refl
tokens_of-append (x ∷ xs) ys = ap (λ (ts : List Token). x.1 ∷ ts) (tokens_of-append xs ys)

-- ---- an element of two lists, one after the other, is in the first or in the second

pub record InFirst (xs before : List (ℕ × Token)) (x : ℕ × Token) : Type 0 where
  pub rest : List (ℕ × Token)
  pub is : xs ≡ before ++ x ∷ rest

pub record InSecond (xs ys before after : List (ℕ × Token)) (x : ℕ × Token) : Type 0 where
  pub between : List (ℕ × Token)
  pub front : before ≡ xs ++ between
  pub is : ys ≡ between ++ x ∷ after

pub split : (xs ys before after : List (ℕ × Token)) (x : ℕ × Token) → xs ++ ys ≡ before ++ x ∷ after → InFirst xs before x ⊎ InSecond xs ys before after x
split [] ys before after x e = inr (record { between = before; front = refl; is = e })
split (y ∷ xs) ys [] after x e = inl (record { rest = xs; is = let h : y ≡ x = cc in ap (λ (z : ℕ × Token). z ∷ xs) h })
split (y ∷ xs) ys (b ∷ before) after x e =
    let h : y ≡ b = cc in
    let t : xs ++ ys ≡ before ++ x ∷ after = cc in
    elim (split xs ys before after x t) [
      | inl p ↦ inl (record { rest = p.rest; is = ap (λ (z : ℕ × Token). z ∷ xs) h ∙ ap (λ (l : List (ℕ × Token)). b ∷ l) p.is })
      | inr p ↦ inr (record { between = p.between; front = ap (λ (l : List (ℕ × Token)). b ∷ l) p.front ∙ ap (λ (z : ℕ × Token). z ∷ (xs ++ p.between)) (sym h); is = p.is })
    ]

-- the wrong token follows those that begin a valid body
pub record IsLater (c : Context) (toks rest : List (ℕ × Token)) (r : Refusal) : Type 0 where
  pub between : List (ℕ × Token)
  pub token : Token
  pub after : List (ℕ × Token)
  pub parts : rest ≡ between ++ (r.offset, token) ∷ after
  pub viable : IsViable c (tokens_of toks ++ tokens_of between)
  pub faulty : IsFaulty c ((tokens_of toks ++ tokens_of between) ++ token ∷ []) r.kind

pub token_later : (c : Context) (toks rest : List (ℕ × Token)) (r : Refusal) → IsViable c (tokens_of toks) → IsTokenFault c (toks ++ rest) r → IsLater c toks rest r
token_later c toks rest r viable f =
    elim (split toks rest f.before f.after (f.at, f.token) f.parts) [
      | inl p ↦
          let e : tokens_of toks ≡ (tokens_of f.before ++ f.token ∷ []) ++ tokens_of p.rest = ap tokens_of p.is ∙ tokens_of-append f.before ((f.at, f.token) ∷ p.rest) ∙ sym (append_assoc (tokens_of f.before) (f.token ∷ []) (tokens_of p.rest)) in
          absurd (faulty_front c (tokens_of f.before ++ f.token ∷ []) (tokens_of p.rest) r.kind f.faulty (rw (← e) viable))
      | inr p ↦
          let e : tokens_of f.before ≡ tokens_of toks ++ tokens_of p.between = ap tokens_of p.front ∙ tokens_of-append toks p.between in
          record {
            between = p.between;
            token = f.token;
            after = f.after;
            parts = p.is ∙ ap (λ (n : ℕ). p.between ++ (n, f.token) ∷ f.after) (sym f.place);
            viable = rw (← e) f.viable;
            faulty = rw (← e) f.faulty;
          }
    ]

-- ---- one token is wrong, and none where the tokens begin a valid body

pub no_token_fault : (c : Context) (tokens : List (ℕ × Token)) (r : Refusal) → IsViable c (tokens_of tokens) → IsTokenFault c tokens r → ⊥
no_token_fault c tokens r viable t =
    let e : tokens_of tokens ≡ (tokens_of t.before ++ t.token ∷ []) ++ tokens_of t.after = ap tokens_of t.parts ∙ tokens_of-append t.before ((t.at, t.token) ∷ t.after) ∙ sym (append_assoc (tokens_of t.before) (t.token ∷ []) (tokens_of t.after)) in
    faulty_front c (tokens_of t.before ++ t.token ∷ []) (tokens_of t.after) r.kind t.faulty (subst (IsViable c) e viable)

same_refusal : (r s : Refusal) → r.offset ≡ s.offset → r.kind ≡ s.kind → r ≡ s
same_refusal r s a b = ap (λ (n : ℕ). record { offset = n; kind = r.kind }) a ∙ ap (λ (k : Kind). record { offset = s.offset; kind = k }) b

-- of two that follow the same tokens
same_place : (c : Context) (before : List Token) (at : ℕ) (t : Token) (after : List (ℕ × Token)) (r s : Refusal) → r.offset ≡ at → IsFaulty c (before ++ t ∷ []) r.kind
    → (between : List (ℕ × Token)) (u : Token) (rest : List (ℕ × Token)) → (at, t) ∷ after ≡ between ++ (s.offset, u) ∷ rest → IsViable c (before ++ tokens_of between) → IsFaulty c ((before ++ tokens_of between) ++ u ∷ []) s.kind → r ≡ s
same_place c before at t after r s place faulty [] u rest e viable other =
    let h : (at, t) ≡ (s.offset, u) = cc in
    let first : IsFaulty c (before ++ u ∷ []) s.kind = subst (λ (l : List Token). IsFaulty c (l ++ u ∷ []) s.kind) (append-nil before) other in
    let second : IsFaulty c (before ++ t ∷ []) s.kind = subst (λ (x : Token). IsFaulty c (before ++ x ∷ []) s.kind) (sym (ap (λ (z : ℕ × Token). z.1) h)) first in
    same_refusal r s (place ∙ ap (λ (z : ℕ × Token). z.0) h) (faulty_once c (before ++ t ∷ []) r.kind s.kind faulty second)
same_place c before at t after r s place faulty (x ∷ between) u rest e viable other =
    let h : (at, t) ≡ x = cc in
    let begun : before ++ x.1 ∷ tokens_of between ≡ (before ++ t ∷ []) ++ tokens_of between = ap (λ (z : ℕ × Token). before ++ z.1 ∷ tokens_of between) (sym h) ∙ sym (append_assoc before (t ∷ []) (tokens_of between)) in
    absurd (faulty_front c (before ++ t ∷ []) (tokens_of between) r.kind faulty (subst (IsViable c) begun viable))

pub token_fault_once : (c : Context) (tokens : List (ℕ × Token)) (r s : Refusal) → IsTokenFault c tokens r → IsTokenFault c tokens s → r ≡ s
token_fault_once c tokens r s f g =
    let later = token_later c f.before ((f.at, f.token) ∷ f.after) s f.viable (subst (λ (l : List (ℕ × Token)). IsTokenFault c l s) f.parts g) in
    same_place c (tokens_of f.before) f.at f.token f.after r s f.place f.faulty later.between later.token later.after later.parts later.viable later.faulty
