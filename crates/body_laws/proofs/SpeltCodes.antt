-- Bodies are read as they are encoded.
use Rattle.std.proofs.Common.{Bool, ◌≡◌, ◌≤◌, ◌<◌, ℕ, zero, suc, ◌+◌, ◌-◌, ltb, List, [], ◌∷◌, ◌++◌, length, None, refl, sym, ap, subst, ◌∙◌, arith, length-append}
use Rattle.std.proofs.lemmas.Bool.{le-ltb}
use Rattle.wasm_defs.proofs.NumberLaws.{AreBytes}
use Rattle.wasm_defs.specs.declared.fault.Kind.TheVariants.{Limit}
use Rattle.wasm_defs.specs.declared.token.Plain.{Plain}
use Rattle.wasm_defs.specs.declared.token.BulkOp.TheVariants.{Fill, Copy, Init}
use Rattle.wasm_defs.specs.declared.token.Plain.TheVariants.{Unreachable, Nop, Return, Drop, Select, Bulk, DataDrop, Numeric}
use Rattle.wasm_defs.specs.declared.token.Token.{Token}
use Rattle.wasm_defs.specs.declared.token.Token.TheVariants as token
use Rattle.wasm_defs.specs.Limits.{max_locals}
use Rattle.wasm_defs.specs.Context.{declared_types}
use Rattle.wasm_defs.specs.Entries.{value_type}
use Rattle.wasm_defs.specs.Fields.{Cursor, Read, Got, Fault, Wants, then_go, byte, first_of, window, u32}
use Rattle.wasm_defs.specs.Items.{Spelling, ◌then◌, exactly, each_is, listed_type_is, listed_index_is, byte_is}
use Rattle.wasm_defs.specs.Bodies.{Group, group, groups, local_groups, Spelled, closed, after_token, goes_on, spelled_from, instruction, depth_after, body_cursor, last_of, BodyRead, read_code, body_read}
use Rattle.wasm_defs.specs.Codes.{listed_vector_is, plain_is, instruction_is, token_is, group_is, Code}
use Rattle.wasm_defs.specs.Faults.{tokens_of}
use Rattle.wasm_defs.specs.Trees.{Sort, Part, Seq, Nothing, Simple, Block, Loop, If, Else, spelled, Tree}
use Rattle.wasm_laws.specs.Kept.{LocalsAreFew}
use Rattle.wasm_laws.specs.Steadiness as steady
use Rattle.wasm_laws.proofs.Steady.{IfGot, always}
use Rattle.wasm_laws.proofs.Windows.{cut_got}
use Rattle.wasm_laws.proofs.Parts.{then_got, got_map}
use Rattle.wasm_laws.proofs.Locals.{types_cons, locals_are_few}
use Rattle.wasm_laws.proofs.Spelt.{cursor, Ready, Found, later, found_nothing, found_then, found_as, read, unless, Reads, reads_then, reads_last, reads_else}
use Rattle.wasm_laws.proofs.SpeltFields.{byte_spelt, u32_spelt}
use Rattle.wasm_laws.proofs.SpeltParts.{value_type_spelt}
use Rattle.body_laws.specs.Reading.{Closes, IsReadAs}
use Rattle.body_laws.proofs.SpeltTokens.{reads_past, reads_only, index_reads, instruction_found, token_read}

-- ---- tokens that nest close all blocks

end_closes : (depth : ℕ) (ts : List Token) → Closes depth ts → Closes (suc depth) (token.End ∷ ts)
end_closes depth ts h = subst (λ (k : ℕ). Closes k ts) (let e : depth ≡ suc depth - 1 = omega arith in e) h

spelled_closes : {sort : Sort} (tree : Part sort) (depth : ℕ) (after : List Token) → Closes (suc depth) after → Closes (suc depth) (spelled tree after)
spelled_closes Nothing depth after h = h
spelled_closes (Simple p rest) depth after h = spelled_closes rest depth after h
spelled_closes (Block type body rest) depth after h = spelled_closes body (suc depth) (token.End ∷ spelled rest after) (end_closes (suc depth) (spelled rest after) (spelled_closes rest depth after h))
spelled_closes (Loop type body rest) depth after h = spelled_closes body (suc depth) (token.End ∷ spelled rest after) (end_closes (suc depth) (spelled rest after) (spelled_closes rest depth after h))
spelled_closes (If type body other rest) depth after h =
    spelled_closes body (suc depth) (spelled other (token.End ∷ spelled rest after))
    (spelled_closes other (suc depth) (token.End ∷ spelled rest after) (end_closes (suc depth) (spelled rest after) (spelled_closes rest depth after h)))
spelled_closes (Else other) depth after h = spelled_closes other depth after h

tree_closes : (ts : List Token) (tree : Seq) → Tree ts tree → Closes 1 ts
tree_closes ts tree e = subst (Closes 1) (sym e) (spelled_closes tree 0 (token.End ∷ []) (end_closes 0 [] tt))

-- ---- a token has a byte at least

one_byte : {b : ℕ} {bytes : List ℕ} → bytes ≡ b ∷ [] → 1 ≤ length bytes
one_byte e = omega (arith, ap length e)

bytes_behind_one : {b : ℕ} {s : Spelling} {at : ℕ} {bytes : List ℕ} → (exactly (b ∷ []) then s) at bytes → 1 ≤ length bytes
bytes_behind_one j = omega (arith, ap length j.parts, ap length j.first, length-append j.front j.back)

plain_some : (counted : Bool) (p : Plain) (at : ℕ) (bytes : List ℕ) → plain_is counted p at bytes → 1 ≤ length bytes
plain_some counted Unreachable at bytes s = one_byte s
plain_some counted Nop at bytes s = one_byte s
plain_some counted Return at bytes s = one_byte s
plain_some counted Drop at bytes s = one_byte s
plain_some counted Select at bytes s = one_byte s
plain_some counted (Numeric op) at bytes s = one_byte s
plain_some counted (Bulk Fill) at bytes s = bytes_behind_one s
plain_some counted (Bulk Copy) at bytes s = bytes_behind_one s
plain_some counted (Bulk (Init x)) at bytes s = bytes_behind_one s.1
plain_some counted (DataDrop x) at bytes s = bytes_behind_one s.1
plain_some counted p at bytes s = bytes_behind_one s

pub token_some : (counted : Bool) (t : Token) (at : ℕ) (bytes : List ℕ) → instruction_is counted t at bytes → 1 ≤ length bytes
token_some counted (token.Plain p) at bytes s = plain_some counted p at bytes s
token_some counted (token.Block ty) at bytes s = bytes_behind_one s
token_some counted (token.Loop ty) at bytes s = bytes_behind_one s
token_some counted (token.If ty) at bytes s = bytes_behind_one s
token_some counted token.Else at bytes s = one_byte s
token_some counted token.End at bytes s = one_byte s

-- ---- tokens that are read whole are encoded

goes_on_found : {A : Type 0} (last : ℕ) (x : Read A) (f : A → Cursor → Spelled) (P : A → Cursor → Type 0) (R : Spelled → Type 0) → IfGot P x → ((a : A) (d : Cursor) → P a d → (f a d).fault ≡ None → R (f a d)) → (goes_on last x f).fault ≡ None → R (goes_on last x f)
goes_on_found last (Got a d) f P R p h e = h a d p e
goes_on_found last (Fault r) f P R p h e = absurd cc
goes_on_found last Wants f P R p h e = absurd cc

closed_found : (counted : Bool) (at : ℕ) (bytes : List ℕ) → (closed at bytes).fault ≡ None → each_is (token_is counted) (closed at bytes).tokens at bytes
closed_found counted at [] e = refl
closed_found counted at (b ∷ bytes) e = absurd cc

tokens_found : (counted : Bool) (n depth last : ℕ) (c : Cursor) → Ready c → (spelled_from counted n depth last c).fault ≡ None → each_is (token_is counted) (spelled_from counted n depth last c).tokens c.at c.rest
unfolding spelled_from
tokens_found counted zero depth last c ready e = absurd cc
tokens_found counted (suc n) zero last c ready e = closed_found counted c.at c.rest e
tokens_found counted (suc n) (suc depth) last c ready e =
    let R : Spelled → Type 0 = λ s. each_is (token_is counted) s.tokens c.at c.rest in
    goes_on_found last (byte c) _ (λ b d. Found (byte_is b.0 b.1) (Unit {0}) c d) R (byte_spelt.sound c ready) (λ b d found whole.
    goes_on_found last (instruction counted b.0 b.1 d) (λ t e. after_token b.0 t (spelled_from counted n (depth_after t (suc depth)) last e)) (λ t e. Found (token_is counted (b.0, t)) (Unit {0}) c e) R (instruction_found counted b.0 b.1 c d found (later c d found ready)) (λ t e one whole. record {
      front = one.taken;
      back = e.rest;
      parts = one.parts;
      first = one.spelled;
      second = subst (λ (at : ℕ). each_is (token_is counted) (spelled_from counted n (depth_after t (suc depth)) last e).tokens at e.rest) one.at (tokens_found counted n (depth_after t (suc depth)) last e (later c e one ready) whole);
    }) whole) e

-- ---- and close all blocks

closed_closes : (at : ℕ) (bytes : List ℕ) → (closed at bytes).fault ≡ None → Closes 0 (tokens_of (closed at bytes).tokens)
closed_closes at [] e = tt
closed_closes at (b ∷ bytes) e = absurd cc

tokens_close : (counted : Bool) (n depth last : ℕ) (c : Cursor) → (spelled_from counted n depth last c).fault ≡ None → Closes depth (tokens_of (spelled_from counted n depth last c).tokens)
unfolding spelled_from
tokens_close counted zero depth last c e = absurd cc
tokens_close counted (suc n) zero last c e = closed_closes c.at c.rest e
tokens_close counted (suc n) (suc depth) last c e =
    let R : Spelled → Type 0 = λ s. Closes (suc depth) (tokens_of s.tokens) in
    goes_on_found last (byte c) _ (λ b d. Unit {0}) R (always (byte c)) (λ b d u whole.
    goes_on_found last (instruction counted b.0 b.1 d) (λ t e. after_token b.0 t (spelled_from counted n (depth_after t (suc depth)) last e)) (λ t e. Unit {0}) R (always (instruction counted b.0 b.1 d)) (λ t e u whole.
    tokens_close counted n (depth_after t (suc depth)) last e whole) whole) e

code_closes : (counted : Bool) (last n : ℕ) (x : Read (List Group)) → (read_code counted last x n).code.fault ≡ None → Closes 1 (tokens_of (read_code counted last x n).code.tokens)
code_closes counted last n (Got gs d) e = tokens_close counted n 1 last d e
code_closes counted last n (Fault r) e = absurd cc
code_closes counted last n Wants e = absurd cc

pub body_closes : (counted : Bool) (first : ℕ) (bytes : List ℕ) → (body_read counted first bytes).code.fault ≡ None → Closes 1 (tokens_of (body_read counted first bytes).code.tokens)
body_closes counted first bytes e = code_closes counted (last_of first bytes) (length bytes + 1) (local_groups (body_cursor first bytes)) e

-- ---- tokens that are encoded are read whole

byte_at : (c : Cursor) (w : List ℕ) → IfGot (λ b d. b.0 ≡ c.at) (first_of c w)
byte_at c [] = cut_got _ _ c
byte_at c (b ∷ w) = refl

-- what is read as these tokens, up to that error
abbrev IsSpelledAs : List (ℕ × Token) → Spelled → Spelled → Type 0
IsSpelledAs ts s rest = (s.tokens ≡ ts) × (s.fault ≡ rest.fault)

token_goes_on : (counted : Bool) (last at : ℕ) (x : Read (ℕ × ℕ)) (k : Token → Cursor → Spelled) (t : Token) (e : Cursor) → IfGot (λ b d. b.0 ≡ at) x → then_go x (λ b. instruction counted b.0 b.1) ≡ Got t e
    → IsSpelledAs ((at, t) ∷ (k t e).tokens) (goes_on last x (λ b d. goes_on last (instruction counted b.0 b.1 d) (λ u f. after_token b.0 u (k u f)))) (k t e)
token_goes_on counted last at (Got b d) k t e is got =
    let f : Token → Cursor → Spelled = λ u g. after_token b.0 u (k u g) in
    let h : goes_on last (instruction counted b.0 b.1 d) f ≡ f t e = ap (λ (z : Read Token). goes_on last z f) got in
    (ap (λ (s : Spelled). s.tokens) h ∙ ap (λ (o : ℕ). (o, t) ∷ (k t e).tokens) is, ap (λ (s : Spelled). s.fault) h)
token_goes_on counted last at (Fault r) k t e is got = absurd cc
token_goes_on counted last at Wants k t e is got = absurd cc

token_step : (counted : Bool) (n depth last : ℕ) (c : Cursor) (t : Token) (e : Cursor) → steady.token counted c ≡ Got t e → IsSpelledAs ((c.at, t) ∷ (spelled_from counted n (depth_after t (suc depth)) last e).tokens) (spelled_from counted (suc n) (suc depth) last c) (spelled_from counted n (depth_after t (suc depth)) last e)
unfolding spelled_from byte
token_step counted n depth last c t e got = token_goes_on counted last c.at (first_of c (window c)) (λ u f. spelled_from counted n (depth_after u (suc depth)) last f) t e (byte_at c (window c)) got

closed_read : (at : ℕ) (bytes : List ℕ) → bytes ≡ [] → ((closed at bytes).tokens ≡ []) × ((closed at bytes).fault ≡ None)
closed_read at bytes e = rw e (refl, refl)

tokens_read : (counted : Bool) (n depth last at end : ℕ) (bytes : List ℕ) (ts : List (ℕ × Token)) → Closes depth (tokens_of ts) → length bytes < n → at + length bytes ≤ end → each_is (token_is counted) ts at bytes
    → ((spelled_from counted n depth last (cursor at bytes end)).tokens ≡ ts) × ((spelled_from counted n depth last (cursor at bytes end)).fault ≡ None)
unfolding spelled_from
tokens_read counted zero depth last at end bytes ts closes lt fits s = absurd (omega arith)
tokens_read counted (suc n) zero last at end bytes [] closes lt fits s = closed_read at bytes s
tokens_read counted (suc n) zero last at end bytes (t ∷ ts) closes lt fits s = absurd closes
tokens_read counted (suc n) (suc depth) last at end bytes [] closes lt fits s = absurd closes
tokens_read counted (suc n) (suc depth) last at end bytes (t ∷ ts) closes lt fits j =
    let len : length bytes ≡ length j.front + length j.back = ap length j.parts ∙ length-append j.front j.back in
    let some = token_some counted t.1 at j.front j.first.1 in
    let e : Cursor = cursor (at + length j.front) j.back end in
    let got : steady.token counted (cursor at bytes end) ≡ Got t.1 e = subst (λ (l : List ℕ). steady.token counted (cursor at l end) ≡ Got t.1 e) (sym j.parts) ((token_read counted t.1).by at end j.front j.back (omega arith) j.first.1) in
    let step = token_step counted n depth last (cursor at bytes end) t.1 e got in
    let rest = tokens_read counted n (depth_after t.1 (suc depth)) last (at + length j.front) end j.back ts closes (omega arith) (omega arith) j.second in
    (step.0 ∙ ap (λ (l : List (ℕ × Token)). (at, t.1) ∷ l) rest.0 ∙ ap (λ (o : ℕ). (o, t.1) ∷ ts) (sym j.first.0), step.1 ∙ rest.1)

-- ---- locals

pub group_found : (declared : ℕ) (c : Cursor) → Ready c → IfGot (λ g d. Found (group_is g) (Unit {0}) c d) (group declared c)
unfolding group
group_found declared c ready =
    read _ _ u32 _ _ c u32_spelt ready (λ n d n_found ready.
    unless _ (ltb max_locals (declared + n.1)) Limit n.0 _ d (λ fits.
    read _ _ value_type _ _ d value_type_spelt ready (λ ty e ty_found ready.
    found_as (group_is (record { count = n.1; ty = ty.1 })) _ c e (found_then (Unit {0}) c d e n_found ty_found tt)
    (λ at bytes j. record { front = j.front; back = j.back; parts = j.parts; first = j.first.1; second = j.second.1 }) tt)))

groups_found : (n declared : ℕ) (c : Cursor) → Ready c → IfGot (λ gs d. Found (each_is group_is gs) (length gs ≡ n) c d) (groups n declared c)
groups_found zero declared c ready = found_nothing c _ ready refl
groups_found (suc n) declared c ready =
    let Q : List Group → Cursor → Type 0 = λ gs d. Found (each_is group_is gs) (length gs ≡ suc n) c d in
    then_got (λ g d. Found (group_is g) (Unit {0}) c d) Q (group declared c) _ (group_found declared c ready) (λ g d found.
    then_got (λ gs e. Found (each_is group_is gs) (length gs ≡ n) d e) Q (groups n (declared + g.count) d) _ (groups_found n (declared + g.count) d (later c d found ready)) (λ gs e rest.
    found_then (length (g ∷ gs) ≡ suc n) c d e found rest (ap suc rest.kept)))

pub locals_found : (c : Cursor) → Ready c → IfGot (λ gs d. Found (listed_vector_is group_is gs) (Unit {0}) c d) (local_groups c)
unfolding local_groups
locals_found c ready =
    read _ _ u32 _ _ c u32_spelt ready (λ n d n_found ready.
    got_map _ _ (groups n.1 0 d) (λ gs e rest.
    found_as (listed_vector_is group_is gs) _ c e (found_then (Unit {0}) c d e n_found rest tt)
    (λ at bytes j. record { front = j.front; back = j.back; parts = j.parts; first = subst (λ (k : ℕ). listed_index_is k at j.front) (sym rest.kept) j.first.1; second = j.second }) tt)
    (groups_found n.1 0 d ready))

group_read : (declared : ℕ) (g : Group) → declared + g.count ≤ max_locals → Reads (group declared) g (group_is g)
unfolding group
group_read declared g fits =
    reads_past u32 _ g.count g (listed_index_is g.count) (listed_type_is g.ty) (index_reads g.count) (λ o.
    reads_else (ltb max_locals (declared + g.count)) _ _ g _ (le-ltb max_locals (declared + g.count) fits)
    (reads_only value_type _ g.ty g (listed_type_is g.ty) (λ o. value_type_spelt.complete (o, g.ty) tt) (λ o c. refl)))

groups_read : (n declared : ℕ) (gs : List Group) → length gs ≡ n → declared + length (declared_types gs) ≤ max_locals → Reads (groups n declared) gs (each_is group_is gs)
groups_read zero declared [] len fits = record { by = λ at end front back le e. nothing at end front back e }
  where
    nothing : (at end : ℕ) (front back : List ℕ) → front ≡ [] → groups zero declared (cursor at (front ++ back) end) ≡ Got [] (cursor (at + length front) back end)
    nothing at end front back e = let zero_more : at + 0 ≡ at = omega arith in rw (e, zero_more) refl
groups_read zero declared (g ∷ gs) len fits = absurd (omega (arith, len))
groups_read (suc n) declared [] len fits = absurd (omega (arith, len))
groups_read (suc n) declared (g ∷ gs) len fits =
    let types = types_cons g gs in
    reads_then (group declared) _ g (g ∷ gs) (group_is g) (each_is group_is gs) (group_read declared g (omega arith))
    (reads_last (groups n (declared + g.count)) (λ (hs : List Group). g ∷ hs) gs (each_is group_is gs) (groups_read n (declared + g.count) gs (omega (arith, len)) (omega arith)))

pub locals_read : (gs : List Group) → LocalsAreFew gs → Reads local_groups gs (listed_vector_is group_is gs)
unfolding local_groups
locals_read gs few = reads_past u32 _ (length gs) gs (listed_index_is (length gs)) (each_is group_is gs) (index_reads (length gs)) (λ o. groups_read (length gs) 0 gs refl (omega (arith, few)))

-- ---- bodies

code_found : (counted : Bool) (last n : ℕ) (c : Cursor) (x : Read (List Group)) → Ready c → IfGot (λ gs d. Found (listed_vector_is group_is gs) (Unit {0}) c d) x → (read_code counted last x n).code.fault ≡ None → Code counted (read_code counted last x n).groups (read_code counted last x n).code.tokens c.at c.rest
code_found counted last n c (Got gs d) ready p e = record {
  front = p.taken;
  back = d.rest;
  parts = p.parts;
  first = p.spelled;
  second = subst (λ (at : ℕ). each_is (token_is counted) (spelled_from counted n 1 last d).tokens at d.rest) p.at (tokens_found counted n 1 last d (later c d p ready) e);
}
code_found counted last n c (Fault r) ready p e = absurd cc
code_found counted last n c Wants ready p e = absurd cc

pub body_found : (counted : Bool) (first : ℕ) (bytes : List ℕ) → AreBytes bytes → (body_read counted first bytes).code.fault ≡ None → Code counted (body_read counted first bytes).groups (body_read counted first bytes).code.tokens first bytes
body_found counted first bytes fits e =
    let c = body_cursor first bytes in
    let ready : Ready c = record { low = omega arith; bytes = fits } in
    code_found counted (last_of first bytes) (length bytes + 1) c (local_groups c) ready (locals_found c ready) e

pub read_is_spelled : (counted : Bool) (first : ℕ) (bytes : List ℕ) (gs : List Group) (ts : List (ℕ × Token)) → AreBytes bytes → IsReadAs counted gs ts first bytes → Code counted gs ts first bytes × LocalsAreFew gs
read_is_spelled counted first bytes gs ts fits is =
    let s = body_found counted first bytes fits is.whole in
    let t : Code counted gs (body_read counted first bytes).code.tokens first bytes = subst (λ (z : List Group). Code counted z (body_read counted first bytes).code.tokens first bytes) is.locals s in
    (subst (λ (z : List (ℕ × Token)). Code counted gs z first bytes) is.code t, subst LocalsAreFew is.locals (locals_are_few counted first bytes))

pub spelled_is_read : (counted : Bool) (first : ℕ) (bytes : List ℕ) (gs : List Group) (ts : List (ℕ × Token)) (tree : Seq) → Tree (tokens_of ts) tree → Code counted gs ts first bytes → LocalsAreFew gs → IsReadAs counted gs ts first bytes
spelled_is_read counted first bytes gs ts tree nests j few =
    let last = last_of first bytes in
    let n = length bytes + 1 in
    let end = first + length bytes + 1 in
    let len : length bytes ≡ length j.front + length j.back = ap length j.parts ∙ length-append j.front j.back in
    let e : Cursor = cursor (first + length j.front) j.back end in
    let got : local_groups (body_cursor first bytes) ≡ Got gs e = subst (λ (l : List ℕ). local_groups (cursor first l end) ≡ Got gs e) (sym j.parts) ((locals_read gs few).by first end j.front j.back (omega arith) j.first) in
    let whole = ap (λ (x : Read (List Group)). read_code counted last x n) got in
    let rest = tokens_read counted n 1 last (first + length j.front) end j.back ts (tree_closes (tokens_of ts) tree nests) (omega arith) (omega arith) j.second in
    record {
      locals = ap (λ (b : BodyRead). b.groups) whole;
      code = ap (λ (b : BodyRead). b.code.tokens) whole ∙ rest.0;
      whole = ap (λ (b : BodyRead). b.code.fault) whole ∙ rest.1;
    }
