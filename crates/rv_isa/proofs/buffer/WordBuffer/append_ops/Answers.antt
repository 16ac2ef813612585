use Rattle.std.proofs.Common.{◌≡◌, ℕ, List, ◌++◌, map, take, drop, length, sym, ap, ◌∙◌, subst, append_assoc}
use Rattle.std.proofs.lemmas.List.{take-append-drop}
use Rattle.std.proofs.Math.Seq.{take-append_seam}
use Rattle.std.specs.List.{flat_map}
use Rattle.rv_isa.specs.Words.{word_of}
use Rattle.rv_isa.proofs.buffer.WordBuffer.append_ops.Goals as goal

-- a list that begins with a and x begins with a
front : (a x words : List ℕ) → take (length (a ++ x)) words ≡ a ++ x → take (length a) words ≡ a
front a x words e =
    let rest = drop (length (a ++ x)) words in
    let whole : a ++ (x ++ rest) ≡ words = sym (append_assoc a x rest) ∙ ap (λ (l : List ℕ). l ++ rest) (sym e) ∙ take-append-drop (length (a ++ x)) words in
    let P : List ℕ → Type 0 = λ l. take (length a) l ≡ a in
    subst P whole (take-append_seam a (x ++ rest))

pub returns-then-not-encode_all-clause-err : goal.returns-then-not-encode_all-clause-err
returns-then-not-encode_all-clause-err c =
    let more = map word_of (flat_map (λ run. run.now) (take c.loop-run.run-index c.args.runs.now)) in
    let kept = rw c.loop-run.invariant.words at c.if-not-encode_all.ensures.some in
    rw (c.truncate.ensures, c.loop-run.invariant.before) (front c.args.self.now more c.encode_all.new.words kept)
