-- The counting of a body's instruction words goes on, or ends.
use Rattle.std.proofs.Common.{◌≡◌, ◌<◌, ℕ, ◌*◌, inl, inr, Bool, true, false, List, [], ◌∷◌, ◌++◌, length, Some, Ok, Err, refl, sym, ap, ◌∙◌, subst, arith, append_assoc, length-append}
use Rattle.std.specs.Prelude.{slice_get}
use Rattle.std.proofs.lemmas.List.{append-nil, length-drop, length-reverse}
use Rattle.wasm_defs.specs.declared.fault.Kind.TheVariants.{Malformed}
use Rattle.wasm_defs.specs.declared.token.Token.{Token}
use Rattle.wasm_defs.specs.declared.token.Token.TheVariants as token
use Rattle.wasm_defs.specs.Faults.{tokens_of}
use Rattle.wasm_defs.specs.Fields.{Cursor, Got, byte}
use Rattle.wasm_defs.specs.Bodies.{Spelled, instruction, depth_after}
use Rattle.wasm_defs.specs.Limits.{max_text}
use Rattle.wasm_defs.specs.Places.{Place, places_of}
use Rattle.wasm_defs.specs.Trees.{Seq, Tree}
use Rattle.wasm_defs.specs.Typing.{Context, IsBody}
use Rattle.leb_feed.specs.declared.stop.Stop.{Stop}
use Rattle.leb_feed.specs.declared.stop.Stop.TheVariants as stop
use Rattle.leb_feed.specs.Reads.{Stops}
use Rattle.body_validator.specs.Checking.{step_checker}
use Rattle.body_validator.specs.Checks.{Checked, IsReached}
use Rattle.frame_layout.specs.Templates.{EmitContext}
use Rattle.body_compiler.specs.declared.code.BodyStop.{BodyStop}
use Rattle.body_compiler.specs.declared.code.BodyStop.TheVariants.{Refused, TooLong, NoMemory}
use Rattle.body_compiler.specs.Counting.{going_of, WordCount, word_count, begun_count, after_token, after_tokens, IsCounting, IsCountingOn, HasManyWords, CountsToken, AreCounted, CountsCode}
use Rattle.body_compiler.specs.Steps.{FunctionsAreSmall}
use Rattle.body_compiler.specs.Going.{IsGoing, ArePlaced, calling, reading_stop, StopsReading}
use Rattle.body_compiler.proofs.Depths.{checker_depth}
use Rattle.body_compiler.proofs.Counting.{after_both, body_counted, tokens_more}
use Rattle.body_compiler.proofs.Going.{no_opcode, stop_behind, goes_behind, tokens_behind, is_valid, all_tokens}
use Rattle.body_compiler.proofs.Walking.{next-place}

-- ---- no token is read

pub byte_stops : (counted : Bool) (c : Context) (last : ℕ) (cursor : Cursor) (check : Checked) (code : Spelled) (s : Stop) → IsGoing counted c last cursor check code → (check.checker.frames ≡ [] → ⊥) → Stops s (byte cursor)
    → StopsReading c code (reading_stop last s)
byte_stops counted c last cursor check code (stop.Refused r) g more h = no_opcode counted c last cursor check code r g more (inl h)
byte_stops counted c last cursor check code stop.Wants g more h = no_opcode counted c last cursor check code (record { offset = last; kind = Malformed }) g more (inr (h, refl))
byte_stops counted c last cursor check code stop.NoMemory g more h = tt

pub instruction_stops : (counted : Bool) (c : Context) (last at b : ℕ) (before d : Cursor) (check : Checked) (code : Spelled) (s : Stop) → IsGoing counted c last before check code → byte before ≡ Got (at, b) d → (check.checker.frames ≡ [] → ⊥)
    → Stops s (instruction counted at b d) → StopsReading c code (reading_stop last s)
instruction_stops counted c last at b before d check code (stop.Refused r) g h more is =
    stop_behind counted c last at b before d check code (record { params = 0; locals = 0; greatest = 0 }) [] false (calling [] [] [] 0 []) d check (stop.Refused r) g h more is
instruction_stops counted c last at b before d check code stop.Wants g h more is =
    stop_behind counted c last at b before d check code (record { params = 0; locals = 0; greatest = 0 }) [] false (calling [] [] [] 0 []) d check stop.Wants g h more is
instruction_stops counted c last at b before d check code stop.NoMemory g h more is = tt

-- ---- before the first token

pub started : (counted : Bool) (c : Context) (last : ℕ) (cursor : Cursor) (check : Checked) (code : Spelled) (front : ℕ) (n : WordCount) (g : IsGoing counted c last cursor check code) → g.tokens ≡ []
    → n ≡ begun_count front (length c.results) → IsCounting counted c last cursor check code front n
started counted c last cursor check code front n g none is = record {
  going = g;
  places = [];
  count = ap (λ (ts : List (ℕ × Token)). length (tokens_of ts)) (sym none);
  placed = λ more tree spells body. (places_of c tree, refl);
  words = λ w. subst (λ (ts : List (ℕ × Token)). n ≡ after_tokens w c (tokens_of ts) [] (begun_count front (length c.results))) (sym none) is;
}

-- ---- one token more

module _ (counted : Bool) (c : Context) (last at b : ℕ) (before d e : Cursor) (t : Token) (q : Place) (check later : Checked) (code : Spelled) (front : ℕ) (old : WordCount) where
  abbrev tokens : IsCounting counted c last before check code front old → List Token
  tokens k = tokens_of k.going.tokens

  next : (k : IsCounting counted c last before check code front old) → ((more : List Token) (tree : Seq) → Tree (tokens k ++ t ∷ more) tree → IsBody check.context tree → slice_get (places_of check.context tree) (length (tokens k)) ≡ Some q)
      → (more : List Token) (tree : Seq) → Tree (tokens k ++ t ∷ more) tree → IsBody c tree → (rest : List Place) × (places_of c tree ≡ (k.places ++ q ∷ []) ++ rest)
  next k placed more tree spells body =
      let r = k.placed (t ∷ more) tree spells body in
      let own : IsBody check.context tree = subst (λ (x : Context). IsBody x tree) (sym k.going.context) body in
      let here = subst (λ (x : Context). slice_get (places_of x tree) (length (tokens k)) ≡ Some q) k.going.context (placed more tree spells own) in
      next-place k.places r.0 (places_of c tree) q r.1 (subst (λ (n : ℕ). slice_get (places_of c tree) n ≡ Some q) (sym k.count) here)

  pub counts_behind : (k : IsCounting counted c last before check code front old) (new : WordCount) → byte before ≡ Got (at, b) d → (check.checker.frames ≡ [] → ⊥) → instruction counted at b d ≡ Got t e
      → step_checker check.context t check.checker ≡ Some later.checker → later.context ≡ check.context → IsReached (tokens_of k.going.tokens ++ t ∷ []) later
      → ((more : List Token) (tree : Seq) → Tree (tokens_of k.going.tokens ++ t ∷ more) tree → IsBody check.context tree → slice_get (places_of check.context tree) (length (tokens_of k.going.tokens)) ≡ Some q)
      → ((w : EmitContext) → new ≡ after_token w c t q old) → IsCounting counted c last e later code front new
  counts_behind k new h more is stepped same reached placed steps =
      let g = k.going in
      let n = goes_behind counted c last at b before d e t check later code g h more is stepped same reached in
      let ts = tokens_of g.tokens in
      let count : length (k.places ++ q ∷ []) ≡ length (ts ++ t ∷ []) = omega (arith, length-append k.places (q ∷ []), length-append ts (t ∷ []), k.count) in
      let are : ArePlaced c (ts ++ t ∷ []) (k.places ++ q ∷ []) = λ others tree spells body. next k placed others tree (sym (append_assoc ts (t ∷ []) others) ∙ spells) body in
      record {
        going = n.going;
        places = k.places ++ q ∷ [];
        count = subst (λ (us : List Token). length (k.places ++ q ∷ []) ≡ length us) (sym n.tokens_are) count;
        placed = subst (λ (us : List Token). ArePlaced c us (k.places ++ q ∷ [])) (sym n.tokens_are) are;
        words = λ w.
            steps w ∙ ap (after_token w c t q) (k.words w) ∙ sym (after_both w c ts (t ∷ []) k.places (q ∷ []) (begun_count front (length c.results)) k.count)
            ∙ ap (λ (us : List Token). after_tokens w c us (k.places ++ q ∷ []) (begun_count front (length c.results))) (sym n.tokens_are);
      }

  -- with its words there are too many in every body that goes on so
  pub many_behind : (k : IsCounting counted c last before check code front old) → byte before ≡ Got (at, b) d → (check.checker.frames ≡ [] → ⊥) → instruction counted at b d ≡ Got t e
      → ((more : List Token) (tree : Seq) → Tree (tokens_of k.going.tokens ++ t ∷ more) tree → IsBody check.context tree → slice_get (places_of check.context tree) (length (tokens_of k.going.tokens)) ≡ Some q)
      → ((w : EmitContext) → max_text < 4 * (after_token w c t q old).words) → HasManyWords c code front
  many_behind k h goes is placed many = λ tree valid w.
      let ts = tokens_of k.going.tokens in
      let all = tokens_behind counted c last at b before d e t check code k.going h goes is in
      let spells : Tree (ts ++ t ∷ all.0) tree = sym all.1 ∙ valid.tree_is in
      let r = next k placed all.0 tree spells valid.typed in
      let begun = begun_count front (length c.results) in
      let places : places_of c tree ≡ k.places ++ q ∷ r.0 = r.1 ∙ append_assoc k.places (q ∷ []) r.0 in
      let whole = ap (λ (x : WordCount). x.words) (
      ap (λ (qs : List Place). after_tokens w c (ts ++ t ∷ all.0) qs begun) places ∙ after_both w c ts (t ∷ all.0) k.places (q ∷ r.0) begun k.count
      ∙ ap (λ (x : WordCount). after_tokens w c all.0 r.0 (after_token w c t q x)) (sym (k.words w))) in
      let total = body_counted w c (ts ++ t ∷ all.0) tree front spells in
      omega (arith, many w, tokens_more w c all.0 r.0 (after_token w c t q old), whole, total)

-- ---- the end

pub counted_code : (counted : Bool) (c : Context) (last : ℕ) (cursor : Cursor) (check : Checked) (code : Spelled) (front : ℕ) (n : WordCount) → IsCounting counted c last cursor check code front n → check.checker.frames ≡ [] → cursor.rest ≡ []
    → CountsCode c code front (Ok tt) n.words
counted_code counted c last cursor check code front n k none nothing =
    let g = k.going in
    let valid = is_valid counted c last cursor check code g none nothing in
    let tree = valid.0 in
    let all = all_tokens counted c last cursor check code g none nothing in
    let ts = tokens_of g.tokens in
    let spells : Tree (ts ++ []) tree = append-nil ts ∙ sym all ∙ valid.1.tree_is in
    let r = k.placed [] tree spells valid.1.typed in (
      tree,
      valid.1,
      λ w.
          let begun = begun_count front (length c.results) in
          ap (λ (x : WordCount). x.words)
          (k.words w ∙ sym (after_both w c ts [] k.places r.0 begun k.count) ∙ ap (λ (qs : List Place). after_tokens w c (ts ++ []) qs begun) (sym r.1))
          ∙ body_counted w c (ts ++ []) tree front spells,
    )

pub stopped_code : (c : Context) (code : Spelled) (front words : ℕ) (s : BodyStop) → StopsReading c code s → CountsCode c code front (Err s) words
stopped_code c code front words (Refused r) h = h
stopped_code c code front words TooLong h = absurd h
stopped_code c code front words NoMemory h = tt

-- ---- whether or not there are too many words

after_depth : (w : EmitContext) (c : Context) (t : Token) (q : Place) (n : WordCount) → length (after_token w c t q n).takes ≡ depth_after t (length n.takes)
after_depth w c (token.Plain p) q n = refl
after_depth w c (token.Block t) q n = refl
after_depth w c (token.Loop t) q n = refl
after_depth w c (token.If t) q n = refl
after_depth w c token.Else q n = refl
after_depth w c token.End q n = length-drop 1 n.takes

-- the frames are those of an open label each
pub still_open : (long : Bool) (takes : List ℕ) (check later : Checked) → AreCounted long takes check → later.context ≡ check.context → long ≡ true → AreCounted long takes later
still_open long takes check later counts same is = record {
  count = λ short. absurd (let k : true ≡ false = sym is ∙ short in cc);
  unlabelled = ap (λ (x : Context). x.labels) same ∙ counts.unlabelled;
  functions = subst FunctionsAreSmall (sym same) counts.functions;
}

count_after : (w : EmitContext) (c : Context) (t : Token) (q : Place) (long : Bool) (takes takes' : List ℕ) (words words' : ℕ) → long ≡ false → CountsToken false long (word_count takes' words') (after_token w c t q (word_count takes words))
    → length takes' ≡ depth_after t (length takes)
count_after w c t q true takes takes' words words' short is = absurd cc
count_after w c t q false takes takes' words words' short is =
    sym (length-reverse takes') ∙ ap (λ (n : WordCount). length n.takes) is ∙ after_depth w c t q (word_count takes words) ∙ ap (depth_after t) (length-reverse takes)

pub open_after : (w : EmitContext) (c : Context) (t : Token) (q : Place) (was long : Bool) (takes takes' : List ℕ) (words words' : ℕ) (check later : Checked) → was ≡ false → AreCounted was takes check → later.context ≡ check.context
    → step_checker check.context t check.checker ≡ Some later.checker → CountsToken false long (word_count takes' words') (after_token w c t q (word_count takes words)) → AreCounted long takes' later
open_after w c t q was long takes takes' words words' check later short counts same e is = record {
  count = λ still. count_after w c t q long takes takes' words words' still is ∙ ap (depth_after t) (counts.count short) ∙ sym (checker_depth check.context t check.checker later.checker e);
  unlabelled = ap (λ (x : Context). x.labels) same ∙ counts.unlabelled;
  functions = subst FunctionsAreSmall (sym same) counts.functions;
}

module _ (counted : Bool) (c : Context) (last at b : ℕ) (before d e : Cursor) (t : Token) (check later : Checked) (code : Spelled) (front : ℕ) (old : WordCount) (h : byte before ≡ Got (at, b) d) (goes : check.checker.frames ≡ [] → ⊥) (is : instruction counted at b d ≡ Got t e)
    (stepped : step_checker check.context t check.checker ≡ Some later.checker) (same : later.context ≡ check.context) where
  pub still_many : (long : Bool) → long ≡ true → (k : IsCountingOn counted long c last before check code front old) → IsReached (tokens_of (going_of counted long c last before check code front old k).tokens ++ t ∷ []) later
      → (new : WordCount) → IsCountingOn counted long c last e later code front new
  still_many false is_long k reached new = absurd cc
  still_many true is_long k reached new = ((goes_behind counted c last at b before d e t check later code k.0 h goes is stepped same reached).going, k.1)

  pub counts_on : (q : Place) (was long : Bool) → was ≡ false → (k : IsCountingOn counted was c last before check code front old) → IsReached (tokens_of (going_of counted was c last before check code front old k).tokens ++ t ∷ []) later
      → ((more : List Token) (tree : Seq) → Tree (tokens_of (going_of counted was c last before check code front old k).tokens ++ t ∷ more) tree → IsBody check.context tree
      → slice_get (places_of check.context tree) (length (tokens_of (going_of counted was c last before check code front old k).tokens)) ≡ Some q)
      → (new : WordCount) → ((w : EmitContext) → CountsToken false long new (after_token w c t q old)) → IsCountingOn counted long c last e later code front new
  counts_on q true long short k reached placed new steps = absurd cc
  counts_on q false false short k reached placed new steps = counts_behind counted c last at b before d e t q check later code front old k new h goes is stepped same reached placed steps
  counts_on q false true short k reached placed new steps = (
    (goes_behind counted c last at b before d e t check later code k.going h goes is stepped same reached).going,
    many_behind counted c last at b before d e t q check later code front old k h goes is placed steps,
  )
