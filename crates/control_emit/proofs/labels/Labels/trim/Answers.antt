use Rattle.std.proofs.Common.{◌≡◌, ◌≤◌, ℕ, List, length, take, drop, sym, ap, ◌∙◌, subst}
use Rattle.std.proofs.lemmas.List.{length-take-le, take-append-drop}
use Rattle.control_emit.specs.declared.labels.Jump.{Jump}
use Rattle.control_emit.specs.declared.labels.Open.{Open}
use Rattle.control_emit.specs.Pending.{AreKept, AreLinked, pending_in}
use Rattle.control_emit.proofs.Chains.{linked-front}
use Rattle.control_emit.proofs.Views.{kept-pending}
use Rattle.control_emit.proofs.labels.Labels.trim.Goals as goal

-- fewer jumps, of which the labels name all that they named
record Trimmed (js : List Jump) (ls : List Open) (n : ℕ) : Type 0 where
  pub kept : AreKept (length (take n js)) ls
  pub linked : AreLinked (take n js)
  pub same : pending_in (take n js) ls ≡ pending_in js ls

trimmed : (js : List Jump) (ls : List Open) (n : ℕ) → AreLinked js → (n ≤ length js) × AreKept n ls → Trimmed js ls n
trimmed js ls n linked h =
    let front = take n js in
    let parts = take-append-drop n js in
    let kept = subst (λ (m : ℕ). AreKept m ls) (sym (length-take-le n js h.0)) h.1 in
    record {
      kept = kept;
      linked = linked-front front (drop n js) (subst AreLinked (sym parts) linked);
      same = sym (kept-pending front (drop n js) ls kept) ∙ ap (λ (x : List Jump). pending_in x ls) parts;
    }

pub invariant_of-self : goal.invariant_of-self
invariant_of-self c =
    let js = c.self.inside.jumps.items in
    let ls = c.self.inside.labels.items in
    let n = c.count_named-count.result in
    let t = trimmed js ls n c.self.invariant.1 (subst (λ (x : List Open). (n ≤ length js) × AreKept n x) c.as_slice.ensures.value (c.count_named-count.ensures (length js) (subst (AreKept (length js)) (sym c.as_slice.ensures.value) c.self.invariant.0))) in
    rw c.truncate.ensures.items (t.kept, t.linked)

pub returns : goal.returns
returns c =
    let js = c.self.inside.jumps.items in
    let ls = c.self.inside.labels.items in
    let n = c.count_named-count.result in
    let t = trimmed js ls n c.self.invariant.1 (subst (λ (x : List Open). (n ≤ length js) × AreKept n x) c.as_slice.ensures.value (c.count_named-count.ensures (length js) (subst (AreKept (length js)) (sym c.as_slice.ensures.value) c.self.invariant.0))) in
    ap (λ (x : List Jump). pending_in x ls) c.truncate.ensures.items ∙ t.same ∙ c.self.view_is
