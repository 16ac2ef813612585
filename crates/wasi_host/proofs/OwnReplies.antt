-- Each run has replies that are the host's own, and has them once.
use Rattle.std.proofs.Common.{◌≡◌, ℕ, zero, suc, ◌+◌, ◌≤◌, ◌<◌, inl, inr, List, [], ◌++◌, take, drop, length, refl, sym, ap, ◌∙◌, subst, arith, append_assoc, length-take}
use Rattle.std.proofs.lemmas.List.{take_all, take-append-drop, take-map, length-map, append-nil}
use Rattle.std.proofs.lemmas.Bool.{cases_lt}
use Rattle.wasm_defs.specs.Values.{Value}
use Rattle.wasm_defs.specs.Host.{HostCall, Reply}
use Rattle.image_format.specs.Contents.{Image}
use Rattle.image_format.specs.declared.image.Import.{Import}
use Rattle.image_format.specs.declared.image.Export.{Export}
use Rattle.image_format.specs.ImageRun.{ImageRun, run_of}
use Rattle.std.proofs.Math.Seq.{take-add}
use Rattle.image_run.specs.Ends.{run_of_export}
use Rattle.image_run.proofs.ReplyLaws.{goes, calls_alike, calls_few}
use Rattle.image_run.proofs.ExportRuns.{first, first_calls, by_goes}
use Rattle.wasi_host.specs.Answers.{answer_of, replies}
use Rattle.wasi_host.specs.Own.{AreOwn}

module _ (imports : List Import) (calls : List Reply → List HostCall) (n : ℕ)
    (few : (rs : List Reply) → length (calls rs) ≤ n)
    (alike : (p x y : List Reply) → take (length p + 1) (calls (p ++ x)) ≡ take (length p + 1) (calls (p ++ y))) where
  abbrev given : List Reply → List Reply
  given p = replies imports (calls p)

  count_given : (p : List Reply) → length (given p) ≡ length (calls p)
  count_given p = length-map (calls p) (λ c. (answer_of imports c).reply)

  front_given : (k : ℕ) (p : List Reply) → take k (given p) ≡ replies imports (take k (calls p))
  front_given k p = take-map (λ (c : HostCall). (answer_of imports c).reply) k (calls p)

  -- replies to the first calls
  abbrev pub AreFirst : List Reply → Type 0
  AreFirst p = p ≡ take (length p) (given p)

  -- so many calls are answered alike
  same_front : (p x : List Reply) → take (length p + 1) (given (p ++ x)) ≡ take (length p + 1) (given p)
  same_front p x =
      front_given (length p + 1) (p ++ x)
      ∙ ap (λ (cs : List HostCall). replies imports cs) (alike p x [] ∙ ap (λ (q : List Reply). take (length p + 1) (calls q)) (append-nil p))
      ∙ sym (front_given (length p + 1) p)

  -- one more
  more : (p : List Reply) → AreFirst p → length p < length (calls p) → (q : List Reply) × (AreFirst (p ++ q)) × (length (p ++ q) ≡ length p + 1)
  more p h less =
      let q = take 1 (drop (length p) (given p)) in
      let whole : take (length p + 1) (given p) ≡ p ++ q = take-add (length p) 1 (given p) ∙ ap (λ (l : List Reply). l ++ q) (sym h) in
      let size : length (p ++ q) ≡ length p + 1 = ap length (sym whole) ∙ omega (arith, length-take (length p + 1) (given p), count_given p) in
      (q, sym whole ∙ sym (same_front p q) ∙ ap (λ (k : ℕ). take k (given (p ++ q))) (sym size), size)

  pub record Completed (p : List Reply) : Type 0 where
    pub rest : List Reply
    pub own : AreOwn imports calls (p ++ rest)

  all_given : (p : List Reply) → AreFirst p → length (calls p) ≤ length p → AreOwn imports calls p
  all_given p h le = h ∙ take_all (length p) (given p) (omega (arith, count_given p))

  pub completed : (m : ℕ) (p : List Reply) → n ≤ length p + m → AreFirst p → Completed p
  completed zero p le h = record { rest = []; own = subst (AreOwn imports calls) (sym (append-nil p)) (all_given p h (omega (arith, le, few p))) }
  completed (suc m) p le h =
      elim (cases_lt (length p) (length (calls p))) [
        | inl less ↦
            let q = more p h less in
            let r = completed m (p ++ q.0) (omega (arith, le, q.2)) q.1 in
            record { rest = q.0 ++ r.rest; own = subst (AreOwn imports calls) (append_assoc p q.0 r.rest) r.own }
        | inr not_less ↦ record { rest = []; own = subst (AreOwn imports calls) (sym (append-nil p)) (all_given p h (omega (arith, not_less))) }
      ]

  pub some_own : (rs : List Reply) × AreOwn imports calls rs
  some_own =
      let r = completed n [] (omega arith) refl in
      (r.rest, r.own)

  -- ---- and only one list is

  count_own : (rs : List Reply) → AreOwn imports calls rs → length rs ≤ n
  count_own rs own = omega (arith, ap length own, count_given rs, few rs)

  next_same : (k : ℕ) (rs ss : List Reply) → AreOwn imports calls rs → AreOwn imports calls ss → take k rs ≡ take k ss → take (length (take k rs) + 1) rs ≡ take (length (take k rs) + 1) ss
  next_same k rs ss a b h =
      let p = take k rs in
      let m = length p + 1 in
      let one : rs ≡ p ++ drop k rs = sym (take-append-drop k rs) in
      let two : ss ≡ p ++ drop k ss = sym (take-append-drop k ss) ∙ ap (λ (l : List Reply). l ++ drop k ss) (sym h) in
      let made : take m (calls rs) ≡ take m (calls ss) = ap (λ (l : List Reply). take m (calls l)) one ∙ alike p (drop k rs) (drop k ss) ∙ ap (λ (l : List Reply). take m (calls l)) (sym two) in
      ap (take m) a ∙ front_given m rs ∙ ap (λ (cs : List HostCall). replies imports cs) made ∙ sym (front_given m ss) ∙ ap (take m) (sym b)

  same_front_of : (k : ℕ) (rs ss : List Reply) → AreOwn imports calls rs → AreOwn imports calls ss → take k rs ≡ take k ss
  same_front_of zero rs ss a b = refl
  same_front_of (suc k) rs ss a b =
      let h = same_front_of k rs ss a b in
      elim (cases_lt (length rs) k) [
        | inl short ↦
            let other : length ss < k = omega (arith, short, ap length h, length-take k rs, length-take k ss) in
            let all : rs ≡ ss = sym (take_all k rs (omega (arith, short))) ∙ h ∙ take_all k ss (omega (arith, other)) in
            ap (take (suc k)) all
        | inr long ↦
            let size : length (take k rs) + 1 ≡ suc k = omega (arith, long, length-take k rs) in
            subst (λ (m : ℕ). take m rs ≡ take m ss) size (next_same k rs ss a b h)
      ]

  pub own_once : (rs ss : List Reply) → AreOwn imports calls rs → AreOwn imports calls ss → rs ≡ ss
  own_once rs ss a b = sym (take_all n rs (count_own rs a)) ∙ same_front_of n rs ss a b ∙ take_all n ss (count_own ss b)

-- of the run of an export
module _ (i : Image) (e : Export) (arguments : List Value) (n : ℕ) where
  abbrev pub calls_with : List Reply → List HostCall
  calls_with rs = (run_of_export i e arguments rs n).calls

  pub few_calls : (rs : List Reply) → length (calls_with rs) ≤ n
  few_calls rs = omega (arith, ap (λ (r : ImageRun). length r.calls) (by_goes i e arguments n rs), calls_few i n (first i e arguments) rs, ap length (first_calls i e arguments))

  pub alike_calls : (p x y : List Reply) → take (length p + 1) (calls_with (p ++ x)) ≡ take (length p + 1) (calls_with (p ++ y))
  alike_calls p x y =
      let until : length (first i e arguments).calls + length p + 1 ≡ length p + 1 = omega (arith, ap length (first_calls i e arguments)) in
      ap (λ (r : ImageRun). take (length p + 1) r.calls) (by_goes i e arguments n (p ++ x))
      ∙ ap (λ (k : ℕ). take k (run_of (goes i n (first i e arguments) (p ++ x))).calls) (sym until)
      ∙ calls_alike i n (first i e arguments) p x y
      ∙ ap (λ (k : ℕ). take k (run_of (goes i n (first i e arguments) (p ++ y))).calls) until
      ∙ ap (λ (r : ImageRun). take (length p + 1) r.calls) (sym (by_goes i e arguments n (p ++ y)))

  pub own_replies : (imports : List Import) → (rs : List Reply) × AreOwn imports calls_with rs
  own_replies imports = some_own imports calls_with n few_calls alike_calls

  pub own_replies_once : (imports : List Import) (rs ss : List Reply) → AreOwn imports calls_with rs → AreOwn imports calls_with ss → rs ≡ ss
  own_replies_once imports rs ss a b = own_once imports calls_with n few_calls alike_calls rs ss a b
