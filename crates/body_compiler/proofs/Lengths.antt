-- Where the instruction words so far, with those of a table's jumps, are more than a text has, so are those of every body that
-- goes on so.
use Rattle.std.proofs.Common.{◌≡◌, ◌≤◌, ◌<◌, ℕ, ◌+◌, ◌-◌, ◌*◌, Bool, true, false, List, [], ◌∷◌, ◌++◌, map, length, Some, sym, ap, ◌∙◌, subst, arith, append_assoc, length-append}
use Rattle.std.specs.Prelude.{slice_get}
use Rattle.std.proofs.lemmas.Bool.{ltb-true}
use Rattle.wasm_defs.specs.declared.token.Plain.TheVariants.{BrTable}
use Rattle.wasm_defs.specs.declared.token.Token.{Token}
use Rattle.wasm_defs.specs.declared.token.Token.TheVariants as token
use Rattle.wasm_defs.specs.Bodies.{Spelled, instruction}
use Rattle.wasm_defs.specs.Faults.{tokens_of}
use Rattle.wasm_defs.specs.Fields.{Cursor, Got, byte}
use Rattle.wasm_defs.specs.Limits.{max_text}
use Rattle.wasm_defs.specs.Places.{Place, places_of}
use Rattle.wasm_defs.specs.Trees.{Seq, Tree}
use Rattle.wasm_defs.specs.Typing.{Context, IsBody}
use Rattle.body_validator.specs.declared.check.Step.{Step as Taken_step}
use Rattle.body_validator.specs.Checking.{guarded, step_checker}
use Rattle.body_validator.specs.Checks.{Checked, IsReached}
use Rattle.frame_layout.specs.declared.layout.Layout.{Layout}
use Rattle.frame_layout.specs.Templates.{Label, EmitContext, label_at, jump_words, jumps, table_front}
use Rattle.control_emit.specs.Emits.{FunctionBuilder}
use Rattle.control_emit.specs.Pending.{Ends, shapes, named}
use Rattle.control_emit.specs.Walks.{Step, token_calls, token_sites, count_of}
use Rattle.control_emit.proofs.Partly.{next_is_within}
use Rattle.control_emit.proofs.Trees.{ends_of, ends_count}
use Rattle.body_compiler.specs.Going.{BodyState, IsCompiling, IsTaking, IsTooLong}
use Rattle.body_compiler.specs.Steps.{table_jumps, appended_at, GetsTooLong, HaveSameFunctions, PassesText}
use Rattle.body_compiler.specs.Unlinked.{IsUnlinked}
use Rattle.body_compiler.specs.Going.{going_of}
use Rattle.body_compiler.proofs.Going.{goes_behind, tokens_behind}
use Rattle.body_compiler.proofs.Walking.{next-place, compiles_behind}

-- ---- a table has its jumps, and one more

front-jumps : (w : EmitContext) (h here : ℕ) (ls ms : List Label) → length (jumps w h here ls) ≤ length (jumps w h here (ls ++ ms))
front-jumps w h here [] ms = omega arith
front-jumps w h here (l ∷ ls) ms =
    let first = jump_words w h here l in
    let rest = front-jumps w h (here + length first) ls ms in
    let a = length-append first (jumps w h (here + length first) ls) in
    let b = length-append first (jumps w h (here + length first) (ls ++ ms)) in
    omega arith

-- at some index, which has no part in how many there are
table-within : (w : EmitContext) (c : Context) (t : Token) (h : ℕ) (d : FunctionBuilder) (ends : List Ends) → (here : ℕ) × (length (table_jumps w h here (named (shapes d.labels) ends) t) ≤ count_of w c t (Some h) d ends)
table-within w c (token.Plain (BrTable is l)) h d ends =
    let labels = named (shapes d.labels) ends in
    let ls = map (label_at w labels) is in
    let last = label_at w labels l in
    let front = table_front w h (length ls) last.takes in
    let here = length d.words + length front in
    let le = front-jumps w (h - 1) here ls (last ∷ []) in
    let n = length-append front (jumps w (h - 1) here (ls ++ last ∷ [])) in
    (here, omega arith)
table-within w c t h d ends = (0, omega arith)

-- ---- a body

pub too_long : (counted : Bool) (c : Context) (last at b : ℕ) (before d e : Cursor) (t : Token) (h : ℕ) (check : Checked) (code : Spelled) (layout : Layout) (front : List ℕ) (old : BodyState) → (k : IsCompiling counted c last before check code layout front old)
    → byte before ≡ Got (at, b) d → (check.checker.frames ≡ [] → ⊥) → instruction counted at b d ≡ Got t e
    → ((more : List Token) (tree : Seq) → Tree (tokens_of k.going.tokens ++ t ∷ more) tree → IsBody check.context tree → slice_get (places_of check.context tree) (length (tokens_of k.going.tokens)) ≡ Some (Some h))
    → PassesText old.draft.labels old.draft.words t
    → IsTooLong c code layout old.rows front
too_long counted c last at b before d e t h check code layout front old k here goes is placed many = λ tree valid w g l near.
    let tokens = tokens_of k.going.tokens in
    let all = tokens_behind counted c last at b before d e t check code k.going here goes is in
    let more = all.0 in
    let spells : Tree (tokens ++ t ∷ more) tree = sym all.1 ∙ valid.tree_is in
    let r = k.placed (t ∷ more) tree spells valid.typed in
    let own : IsBody check.context tree = subst (λ (x : Context). IsBody x tree) (sym k.going.context) valid.typed in
    let at_place = subst (λ (x : Context). slice_get (places_of x tree) (length tokens) ≡ Some (Some h)) k.going.context (placed more tree spells own) in
    let next = next-place k.places r.0 (places_of c tree) (Some h) r.1 (subst (λ (n : ℕ). slice_get (places_of c tree) n ≡ Some (Some h)) (sym k.count) at_place) in
    let places : places_of c tree ≡ k.places ++ Some h ∷ next.0 = next.1 ∙ append_assoc k.places (Some h ∷ []) next.0 in
    let ends = ends_of (shapes old.draft.labels) in
    let count = ends_count old.draft.labels in
    let within = next_is_within w c tokens more t k.places next.0 (Some h) tree front old.draft ends spells places k.count count (k.walk w g l near).0 in
    let table = table-within w c t h old.draft ends in
    let words = length (table_jumps w h table.0 (named (shapes old.draft.labels) ends) t) in
    let fits : words ≤ count_of w c t (Some h) old.draft ends = table.1 in
    let over : max_text < 4 * (length old.draft.words + words) = ltb-true max_text (4 * (length old.draft.words + words)) (many w h table.0 ends count) in
    omega (arith, within, fits, over)

-- ---- one token more, whether or not the code is too long

pub takes_behind : (counted : Bool) (c module_context : Context) (last at b : ℕ) (before d e : Cursor) (t : Token) (s : Taken_step) (check later : Checked) (code : Spelled) (layout : Layout) (front : List ℕ) (old new : BodyState) (was is_now : Bool) → (k : IsTaking counted was c last before check code layout front old)
    → byte before ≡ Got (at, b) d → (check.checker.frames ≡ [] → ⊥) → instruction counted at b d ≡ Got t e
    → step_checker check.context t check.checker ≡ Some later.checker → later.context ≡ check.context
    → let tokens = tokens_of (going_of counted was c last before check code layout front old k).tokens in
    IsReached (tokens ++ t ∷ []) later
    → ((more : List Token) (tree : Seq) → Tree (tokens ++ t ∷ more) tree → IsBody check.context tree → slice_get (places_of check.context tree) (length tokens) ≡ Some (guarded s.live s.height_before))
    → HaveSameFunctions check.context module_context
    → GetsTooLong was is_now s.live old.draft.labels old.draft.words t
    → ((w : EmitContext) (c : Context) → w.layout ≡ layout → IsUnlinked old.rows module_context.types w → HaveSameFunctions c module_context → Step w c t (appended_at is_now t (guarded s.live s.height_before)) old.draft new.draft)
    → ((w : EmitContext) → new.calls ≡ old.calls ++ token_calls w t (guarded s.live s.height_before) (length old.draft.words))
    → new.sites ≡ old.sites ++ token_sites t (guarded s.live s.height_before) (length old.draft.words) at
    → new.rows ≡ old.rows → IsTaking counted is_now c last e later code layout front new
takes_behind counted c m last at b before d e t s check later code layout front old new false false k h more is stepped same reached placed functions gets steps calls sites rows =
    compiles_behind counted c m last at b before d e t s check later code layout front old new k h more is stepped same reached placed functions steps calls sites rows
takes_behind counted c m last at b before d e t s check later code layout front old new false true k h more is stepped same reached placed functions gets steps calls sites rows =
    let live : guarded s.live s.height_before ≡ Some s.height_before = ap (λ (l : Bool). guarded l s.height_before) gets.0 in
    let long = too_long counted c last at b before d e t s.height_before check code layout front old k h more is (λ others tree spells body. placed others tree spells body ∙ ap (λ (q : Place). Some q) live) gets.1 in (
      (goes_behind counted c last at b before d e t check later code k.going h more is stepped same reached).going,
      subst (λ (n : ℕ). IsTooLong c code layout n front) (sym rows) long,
    )
takes_behind counted c m last at b before d e t s check later code layout front old new true true k h more is stepped same reached placed functions gets steps calls sites rows =
    ((goes_behind counted c last at b before d e t check later code k.0 h more is stepped same reached).going, subst (λ (n : ℕ). IsTooLong c code layout n front) (sym rows) k.1)
takes_behind counted c m last at b before d e t s check later code layout front old new true false k h more is stepped same reached placed functions gets steps calls sites rows = absurd gets
