-- Bodies that were kept, and what workers made of them.
use Rattle.std.proofs.Common.{◌≡◌, ◌<◌, ◌+◌, ◌*◌, ℕ, List, [], ◌∷◌, ◌++◌, length, Option, Some, None, Ok, Err, All, inr, refl, sym, ap, subst, ◌∙◌, arith, append_assoc, true≢false}
use Rattle.std.specs.Prelude.{false, IfSome, is_some, option_to_list, reverse}
use Rattle.std.proofs.lemmas.List.{append-nil, reverse-append, reverse-reverse}
use Rattle.std.proofs.lemmas.List.Elements.{All-append}
use Rattle.std.specs.Arc.{arc_value}
use Rattle.std.specs.declared.alloc.Global.{Global}
use Rattle.std.specs.declared.sync.Arc.{Arc}
use Rattle.wasm_defs.specs.declared.fault.Refusal.{Refusal}
use Rattle.wasm_defs.specs.declared.front_stop.FrontStop.{FrontStop}
use Rattle.wasm_defs.specs.declared.front_stop.FrontStop.TheVariants.{Refused, NoMemory}
use Rattle.wasm_defs.specs.Bodies.{body_read}
use Rattle.wasm_defs.specs.Limits.{max_text}
use Rattle.wasm_defs.specs.Instances.{first_minimum}
use Rattle.rv_isa.specs.declared.compiled.Code.{Code}
use Rattle.index_spaces.specs.Spaces.{Spaces, context_in}
use Rattle.result_cells.specs.Rooms.{Store, Short}
use Rattle.body_cutter.specs.declared.batch.Batch.{Batch}
use Rattle.body_cutter.specs.Bodies.{Body}
use Rattle.body_cutter.specs.Cuttings.{Cutting, Takes}
use Rattle.body_compiler.specs.Compiling.{Compiles}
use Rattle.image_linker.specs.ImageOf.{front_of}
use Rattle.body_compiler.specs.declared.batch.row.Row.{Row}
use Rattle.body_compiler.specs.declared.batch.row.RowCode.{RowCode}
use Rattle.body_compiler.specs.BatchRows.{IsCodeFor, AreCodesFor, IsRow, Stores}
use Rattle.module_stream.specs.Codes.{Coding, with_code}
use Rattle.module_stream.specs.Kept.{kept_bodies, AreFront}
use Rattle.module_stream.specs.Progress.{TakesBody, TakesCode, KeepsLimit}
use Rattle.module_stream.proofs.Cutting.{closed_taken}

-- the codes of a row are those of its first bodies
module _ (c : Spaces) (cells : Store) where
  codes_front : (bodies more : List Body) (codes : List RowCode) → AreCodesFor c cells bodies codes → AreFront c cells (bodies ++ more) codes
  codes_front [] more [] are = tt
  codes_front [] more (k ∷ codes) are = absurd are
  codes_front (b ∷ bodies) more [] are = absurd are
  codes_front (b ∷ bodies) more (k ∷ codes) are = (are.0, codes_front bodies more codes are.1)

  all_front : (bodies : List Body) (codes : List RowCode) → AreCodesFor c cells bodies codes → AreFront c cells bodies codes
  all_front [] [] are = tt
  all_front [] (k ∷ codes) are = absurd are
  all_front (b ∷ bodies) [] are = absurd are
  all_front (b ∷ bodies) (k ∷ codes) are = (are.0, all_front bodies codes are.1)

  pub row_front : (bodies : List Body) (codes : List RowCode) (fault : Option Refusal) (cut : Option Short) → IsRow c cells bodies codes fault cut → AreFront c cells bodies codes
  row_front bodies codes None None is = all_front bodies codes is
  row_front bodies codes None (Some short) is = subst (λ (l : List Body). AreFront c cells l codes) (sym is.2) (codes_front is.0 is.1 codes is.3)
  row_front bodies codes (Some r) (Some short) is = absurd is
  row_front bodies codes (Some r) None is = subst (λ (l : List Body). AreFront c cells l codes) (sym is.3) (codes_front is.0 (is.1 ∷ is.2) codes is.4)

  -- and those of a list that is the same
  pub same_front : (bodies others : List Body) (codes : List RowCode) (fault : Option Refusal) (cut : Option Short) → others ≡ bodies → IsRow c cells others codes fault cut → AreFront c cells bodies codes
  same_front bodies others codes fault cut e is = subst (λ (l : List Body). AreFront c cells l codes) e (row_front others codes fault cut is)

-- the code of the body that comes next
module _ (c : Spaces) (cells : Store) (bodies rest : List Body) (b : Body) (step : bodies ≡ b ∷ rest) where
  pub next_made : (r : Option RowCode) (made left : List RowCode) → made ≡ left ++ option_to_list r → (r ≡ None → left ≡ []) → AreFront c cells bodies (reverse made) → IfSome r (IsCodeFor c cells b)
  next_made None made left popped none are = tt
  next_made (Some k) made left popped none are = (split k made left popped are).0
    where
      split : (k : RowCode) (made left : List RowCode) → made ≡ left ++ k ∷ [] → AreFront c cells bodies (reverse made) → IsCodeFor c cells b k × AreFront c cells rest (reverse left)
      split k made left popped are = subst (λ (z : List Body × List RowCode). AreFront c cells z.0 z.1) (λ i. (step i, (ap reverse popped ∙ reverse-append left (k ∷ [])) i)) are

  pub rest_made : (r : Option RowCode) (made left : List RowCode) → made ≡ left ++ option_to_list r → (r ≡ None → left ≡ []) → AreFront c cells bodies (reverse made) → AreFront c cells rest (reverse left)
  rest_made None made left popped none are = subst (λ (l : List RowCode). AreFront c cells rest (reverse l)) (sym (none refl)) tt
  rest_made (Some k) made left popped none are =
      (subst (λ (z : List Body × List RowCode). AreFront c cells z.0 z.1) (λ i. (step i, (ap reverse popped ∙ reverse-append left (k ∷ [])) i)) are).1

-- a code that was made of it
pub made_for : (spaces : Spaces) (cells : Store) (n index : ℕ) (body : Body) (k : RowCode) → index ≡ spaces.imported + n → body.index ≡ index → IsCodeFor spaces cells body k
    → (code : Code) × Stores cells index k.stored code × TakesBody spaces n body (Ok code)
made_for spaces cells n index body k is same made = (
  made.code,
  subst (λ (m : ℕ). Stores cells m k.stored made.code) same made.is,
  subst (λ (m : ℕ). Compiles (first_minimum spaces.tables) body.first (context_in spaces) m (body_read (is_some spaces.data_count) body.first body.bytes) (Ok made.code)) (same ∙ is) made.compiled,
)

-- a body with a code of so many words
pub code_limited : (spaces : Spaces) (codes new : Coding) (b : Body) (code : Code) (words : ℕ) (s : FrontStop) → words ≡ length code.words → TakesBody spaces codes.count b (Ok code) → KeepsLimit spaces codes b words (Err s) → TakesCode spaces codes b (Err s) new
code_limited spaces codes new b code words (Refused r) is compiled h = inr (code, compiled, subst (λ (n : ℕ). max_text < 4 * (front_of spaces.imported + (codes.words + n))) is h.0, h.1)
code_limited spaces codes new b code words NoMemory is compiled h = absurd h

pub code_added : (spaces : Spaces) (codes new : Coding) (b : Body) (code : Code) (words : ℕ) → words ≡ length code.words → TakesBody spaces codes.count b (Ok code) → KeepsLimit spaces codes b words (Ok tt) → new ≡ with_code codes code → TakesCode spaces codes b (Ok tt) new
code_added spaces codes new b code words is compiled h added = (code, compiled, added, (let e : new.words ≡ codes.words + length code.words = ap (λ (x : Coding). x.words) added in omega arith))

-- only its words are counted
pub words_counted : (codes new : Coding) (code : Code) (words : ℕ) → codes.kept ≡ None → words ≡ length code.words → new ≡ record { count = codes.count + 1; words = codes.words + words; kept = None } → new ≡ with_code codes code
words_counted codes new code words none is e = e ∙ (λ i. record { count = codes.count + 1; words = codes.words + is i; kept = None }) ∙ none_with codes code none
  where
    none_with : (x : Coding) (k : Code) → x.kept ≡ None → record { count = x.count + 1; words = x.words + length k.words; kept = None } ≡ with_code x k
    none_with x k f = rw f refl

-- ---- batches one after the other

pub kept_next : (kept rest : List (Arc Batch Global)) (b : Arc Batch Global) → kept ≡ b ∷ rest → kept_bodies kept ≡ (arc_value b).bodies ++ kept_bodies rest
kept_next kept rest b e = ap kept_bodies e

kept_push : (kept : List (Arc Batch Global)) (b : Arc Batch Global) → kept_bodies (kept ++ b ∷ []) ≡ kept_bodies kept ++ (arc_value b).bodies
kept_push [] b = append-nil (arc_value b).bodies
kept_push (x ∷ kept) b = ap (λ (l : List Body). (arc_value x).bodies ++ l) (kept_push kept b) ∙ sym (append_assoc (arc_value x).bodies (kept_bodies kept) (arc_value b).bodies)

-- a batch was taken out of the cutter, and kept
pub kept_more : (kept kept' : List (Arc Batch Global)) (b : Arc Batch Global) (batch : Batch) (old new : Cutting) (all : List Body) → kept' ≡ kept ++ b ∷ [] → arc_value b ≡ batch → Takes old (Some batch) new
    → kept_bodies kept ++ old.queue.closed ≡ all → kept_bodies kept' ++ new.queue.closed ≡ all
kept_more kept kept' b batch old new all more is takes e =
    ap (λ (l : List (Arc Batch Global)). kept_bodies l ++ new.queue.closed) more
    ∙ ap (λ (l : List Body). l ++ new.queue.closed) (kept_push kept b)
    ∙ append_assoc (kept_bodies kept) (arc_value b).bodies new.queue.closed
    ∙ ap (λ (x : Batch). kept_bodies kept ++ (x.bodies ++ new.queue.closed)) is
    ∙ sym (ap (λ (l : List Body). kept_bodies kept ++ l) (closed_taken old new batch takes))
    ∙ e

-- all were taken out
pub kept_all : (kept closed all : List Body) → closed ≡ [] → kept ++ closed ≡ all → kept ≡ all
kept_all kept closed all none e = sym (append-nil kept) ∙ ap (λ (l : List Body). kept ++ l) (sym none) ∙ e

-- ---- what a row has

module _ (c : Spaces) (cells : Store) where
  pub reversed_front : (bodies others : List Body) (codes made : List RowCode) (fault : Option Refusal) (cut : Option Short) → others ≡ bodies → made ≡ reverse codes → IsRow c cells others codes fault cut → AreFront c cells bodies (reverse made)
  reversed_front bodies others codes made fault cut e turned is =
      subst (λ (l : List RowCode). AreFront c cells bodies l) (sym (ap reverse turned ∙ reverse-reverse codes)) (same_front c cells bodies others codes fault cut e is)

pub not_kept : {X : Type 0} (o : Option X) → is_some o ≡ false → o ≡ None
not_kept None e = refl
not_kept (Some x) e = absurd (true≢false e)

-- the rows of the workers, and those of the thread that settled
pub rows_grown : (P : Row → Type 0) (rows more new : List Row) → new ≡ rows ++ more → All P rows → All P more → All P new
rows_grown P rows more new e a b = subst (All P) (sym e) (All-append P rows more a b)

-- ---- what a note knows

pub known_code : (known : Option Code) (found code : Code) → known ≡ Some code → IfSome known (λ c. c ≡ found) → found ≡ code
known_code known found code is agrees = sym (subst (λ (o : Option Code). IfSome o (λ c. c ≡ found)) is agrees)

pub not_unknown : (known : Option Code) (code : Code) → known ≡ Some code → known ≡ None → ⊥
not_unknown known code is none = let e : Some code ≡ None = sym is ∙ none in absurd (cc)
