use Rattle.std.proofs.Common.{◌≡◌, ◌<◌, ◌≤◌, inl, inr, List, [], ◌∷◌, ◌++◌, All, sym, ap, subst, ◌∙◌, arith}
use Rattle.std.proofs.lemmas.List.Elements.{All-push}
use Rattle.body_cutter.specs.Bodies.{Body, Block, byte_count, no_bodies}
use Rattle.body_cutter.specs.Queues.{Queue, joined, IsFull}
use Rattle.body_cutter.specs.Walks.{batches_of}
use Rattle.body_cutter.proofs.Batches.{is_full, complete_bytes, joined_push, closes_full, stays_begun}
use Rattle.body_cutter.proofs.walk.Walk.close_full.Goals as goal
use Rattle.body_cutter.proofs.walk.Walk.close_full.Goals.{Then-len-self, In-Ok}

-- ---- too few bytes

few_bytes : (c : Then-len-self) → byte_count c.args.self.now.block.bodies < c.args.self.now.least
few_bytes c = omega (arith, c.if-len-self.true, c.len.ensures, complete_bytes c.args.self.now.block c.requires)

pub returns-then-len-self-clause-batches : goal.returns-then-len-self-clause-batches
returns-then-len-self-clause-batches c = sym (stays_begun (batches_of c.args.self.now) c.args.self.now.block.bodies (few_bytes c))

pub returns-then-len-self-clause-full : goal.returns-then-len-self-clause-full
returns-then-len-self-clause-full c = λ before body is few full. record { full = full; few = inr (few_bytes c) }

-- ---- enough bytes

enough : (c : In-Ok) → c.args.self.now.least ≤ byte_count c.args.self.now.block.bodies
enough c = omega (arith, c.if-len-self.false, c.len.ensures, complete_bytes c.args.self.now.block c.requires)

closed : (c : In-Ok) → c.push_back.new.self ≡ c.args.self.now.closed ++ c.args.self.now.block.bodies ∷ []
closed c = c.in-Ok.ensures.items ∙ ap (λ (l : List Body). c.args.self.now.closed ++ l ∷ []) (c.new-2.ensures ∙ ap (λ (b : Block). b.bodies) c.replace-block.ensures.value)

anew : (c : In-Ok) → c.replace-block.new.dest ≡ no_bodies
anew c = c.replace-block.ensures.after ∙ c.new.ensures

pub returns-in-Ok-clause-batches : goal.returns-in-Ok-clause-batches
returns-in-Ok-clause-batches c =
    let w = c.args.self.now in
    let q : List Body → List Body → Queue = λ done begun. record { least = w.least; number = 0; closed = done; begun = begun } in
    ap (λ (l : List (List Body)). q (joined l) c.replace-block.new.dest.bodies) (closed c)
    ∙ ap (λ (b : Block). q (joined (w.closed ++ w.block.bodies ∷ [])) b.bodies) (anew c)
    ∙ ap (λ (l : List Body). q l []) (joined_push w.closed w.block.bodies)
    ∙ sym (closes_full (batches_of w) w.block.bodies (enough c))

pub returns-in-Ok-clause-full : goal.returns-in-Ok-clause-full
returns-in-Ok-clause-full c = λ before body is few full.
    let w = c.args.self.now in
    let batch : IsFull w.least w.block.bodies = subst (IsFull w.least) (sym is) (is_full w.least before body few (omega (arith, enough c, ap byte_count is))) in
    record {
      full = subst (All (IsFull w.least)) (sym (closed c)) (All-push (IsFull w.least) w.closed w.block.bodies full batch);
      few = inl (ap (λ (b : Block). b.bodies) (anew c));
    }
