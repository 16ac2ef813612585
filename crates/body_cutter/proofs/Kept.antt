-- What holds of a cutter after a call.
use Rattle.std.proofs.Common.{◌≡◌, ℕ, ◌+◌, ◌<◌, ◌≤◌, ◌^◌, inl, Bool, true, false, eqb, ◌&&◌, All, List, [], ◌++◌, length, Option, Some, None, Result, Ok, Err, refl, sym, ap, subst, ◌∙◌, arith, length-append}
use Rattle.std.specs.Prelude.{OnOk, OnErr, is_err}
use Rattle.std.proofs.lemmas.List.{append-nil}
use Rattle.std.proofs.lemmas.List.Elements.{All-nil, All-append}
use Rattle.wasm_defs.specs.declared.fault.Refusal.{Refusal}
use Rattle.leb_feed.specs.Feeding.{Feeding}
use Rattle.body_cutter.specs.Bodies.{Body, Block, Begins, no_bodies, mark_of}
use Rattle.body_cutter.specs.declared.walk.Walk.{Walk}
use Rattle.body_cutter.specs.declared.walk.Saved.{Saved}
use Rattle.body_cutter.specs.declared.queue.Waiting.{Waiting}
use Rattle.body_cutter.specs.Sections.{End, Given, Whole, Faulty, Owed}
use Rattle.body_cutter.specs.Walks.{given, batches_of, position_of, is_over, IsSound, IsInHand, UnlessRefused, AreBatches, Starts, first_block}
use Rattle.body_cutter.specs.Places.{still}
use Rattle.body_cutter.specs.Queues.{Queue, IsFull, AreFew, bodies_in, all_closed, joined}
use Rattle.body_cutter.specs.Cuttings.{IsPrompt, left, handed, finished}
use Rattle.body_cutter.specs.Held.{IsHeld, IsLastIf, end_by, last_of, waiting, queue_of}
use Rattle.body_cutter.proofs.Batches.{is_last}
use Rattle.body_cutter.proofs.Starts.{begins_itself}
use Rattle.body_cutter.proofs.Cuts.{idle, goes, tells_fault, waits_after, run_moves, sound_without}

-- ---- prompt

-- where no batch is begun, none closes
closes_none : (q : Queue) → q.begun ≡ [] → all_closed q ≡ q
closes_none q none =
    ap (λ (l : List Body). record { least = q.least; number = q.number; closed = q.closed ++ l; begun = [] }) none
    ∙ ap (λ (l : List Body). record { least = q.least; number = q.number; closed = l; begun = [] }) (append-nil q.closed)
    ∙ ap (λ (l : List Body). record { least = q.least; number = q.number; closed = q.closed; begun = l }) (sym none)

pub none_begun : (e : End) (q : Queue) → q.begun ≡ [] → finished e q ≡ q
none_begun Owed q none = refl
none_begun Whole q none = closes_none q none
none_begun (Faulty r) q none = closes_none q none

-- what is there is all that the bytes decide
pub prompt_now : (w : Walk) (q : Waiting) → IsHeld w q → IsPrompt (record { place = position_of w; queue = queue_of w q })
unfolding left
prompt_now w q held = record {
  queue = ap (λ (g : Given). (handed (queue_of w q) g).queue) (idle w held.sound) ∙ held.prompt;
  refused = λ r e. tells_fault w.stop (eqb w.count 0 && eqb w.at w.end) r (sym (ap (λ (g : Given). (handed (queue_of w q) g).ending) (idle w held.sound)) ∙ e);
}

-- ---- results

pub when_ok : {A E P : Type 0} (r : Result A E) → is_err r ≡ false → OnOk r P → P
when_ok (Ok x) e p = p
when_ok (Err x) e p = absurd cc

when_err : {A E P : Type 0} (r : Result A E) → is_err r ≡ true → OnErr r P → P
when_err (Ok x) e p = absurd cc
when_err (Err x) e p = p

-- ---- after a walk

moved_hand : (v : Walk) (c : List (List Body)) (o : Option Refusal) (s : Bool) → UnlessRefused o (IsInHand v s) → UnlessRefused o (IsInHand (record v { closed = c }) s)
moved_hand v c (Some r) s h = tt
moved_hand v c None true h = record { one = h.one; short = h.short; small = h.small; came = h.came; room = h.room }
moved_hand v c None false h = record { place = h.place; bits = h.bits; signed = h.signed; unfinished = h.unfinished; empty = h.empty; room = h.room; fresh = h.fresh }

-- its batches are moved
pub sound_moved : (v : Walk) (c : List (List Body)) → IsSound v → IsSound (record v { closed = c })
sound_moved v c sound = record { counted = sound.counted; inside = sound.inside; fits = sound.fits; hand = moved_hand v c v.stop v.sized sound.hand }

-- a walk that ran, whose batches are moved to those that wait
pub record IsMoved (w v : Walk) (q r : Waiting) : Type 0 where
  pub sound : IsSound v
  pub batches : AreBatches v
  pub kept : (v.end ≡ w.end) × (v.behind ≡ w.behind) × (v.least ≡ w.least)
  pub counts : length (bodies_in (batches_of v)) + v.count ≡ length (bodies_in (batches_of w)) + w.count
  pub before : q.last ≡ None
  pub after : r.last ≡ None
  pub number : r.number ≡ q.number
  pub closed : r.closed ≡ q.closed ++ v.closed

-- where neither ran out of memory
pub is_moved : {A B E F : Type 0} (w v : Walk) (q r : Waiting) (ran : Result A E) (moved : Result B F) → is_err ran ≡ false → is_err moved ≡ false → IsHeld w q → is_over w ≡ false
    → OnOk ran (IsSound v) → OnOk ran (AreBatches w → AreBatches v) → (v.end ≡ w.end) × (v.behind ≡ w.behind) × (v.least ≡ w.least)
    → OnOk ran (length (bodies_in (batches_of v)) + v.count ≡ length (bodies_in (batches_of w)) + w.count)
    → OnOk moved (r ≡ record { number = q.number; closed = q.closed ++ v.closed; last = q.last }) → IsMoved w v q r
is_moved w v q r ran moved e f held on sound batches kept counts ok =
    let is = when_ok moved f ok in
    record {
      sound = when_ok ran e sound;
      batches = when_ok ran e batches held.batches;
      kept = kept;
      counts = when_ok ran e counts;
      before = held.going on;
      after = ap (λ (k : Waiting). k.last) is ∙ held.going on;
      number = ap (λ (k : Waiting). k.number) is;
      closed = ap (λ (k : Waiting). k.closed) is;
    }

pub moved_left : (w v : Walk) (q r : Waiting) (bytes more : List ℕ) → IsHeld w q → IsMoved w v q r → given w bytes ≡ given v more
    → handed (queue_of w q) (still (position_of w) bytes) ≡ handed (queue_of v r) (still (position_of v) more)
moved_left w v q r bytes more held m same = run_moves w v q r bytes more held.given m.before m.after m.number m.closed same

module _ (w v : Walk) (q r : Waiting) (held : IsHeld w q) (m : IsMoved w v q r) where
  numbers : r.number + (length (waiting r) + length v.block.bodies) + v.count ≤ v.behind
  numbers =
      omega (arith, held.numbers, m.counts, m.kept.1, m.number, ap length (waits_after q r v.closed m.before m.after m.closed), length-append (waiting q) (joined v.closed), length-append (joined v.closed) v.block.bodies, length-append (joined w.closed) w.block.bodies, ap (λ (l : List (List Body)). length (joined l)) held.given)

  full : All (IsFull v.least) r.closed
  full =
      let before : All (IsFull v.least) q.closed = subst (λ (k : ℕ). All (IsFull k) q.closed) (sym m.kept.2) held.full in
      subst (All (IsFull v.least)) (sym m.closed) (All-append (IsFull v.least) q.closed v.closed before m.batches.full)

  indices : v.behind < 2 ^ 32
  indices = omega (arith, held.indices, m.kept.1)

  -- bytes can follow
  pub held_going : (c : List (List Body)) → c ≡ [] → is_over v ≡ false → IsHeld (record v { closed = c }) r
  held_going c none on = record {
    sound = sound_moved v c m.sound;
    batches = record { full = subst (All (IsFull v.least)) (sym none) (All-nil (IsFull v.least)); few = m.batches.few };
    given = none;
    indices = indices;
    numbers = numbers;
    prompt = ap (λ (x : End). finished x (queue_of v r)) (goes v.stop (eqb v.count 0 && eqb v.at v.end) on);
    full = full;
    last = subst (IsLastIf v.least) (sym m.after) tt;
    going = λ e. m.after;
  }

-- ---- the batch that is begun closes

pub record IsClosed (v : Walk) (r s : Waiting) : Type 0 where
  pub last : (last_of s.last ≡ v.block.bodies) × (v.block.bodies ≡ [] → s.last ≡ None)
  pub kept : (s.number ≡ r.number) × (s.closed ≡ r.closed)
  pub waits : waiting s ≡ waiting r ++ v.block.bodies

pub held_closed : (v : Walk) (r s : Waiting) → IsSound (record v { block = no_bodies }) → is_over v ≡ true → AreFew v.least v.block.bodies → v.closed ≡ [] → v.behind < 2 ^ 32
    → r.number + (length (waiting r) + length v.block.bodies) + v.count ≤ v.behind → All (IsFull v.least) r.closed → IsClosed v r s → IsHeld (record v { block = no_bodies }) s
held_closed v r s sound over few none indices numbers full is = record {
  sound = sound;
  batches = record { full = subst (All (IsFull v.least)) (sym none) (All-nil (IsFull v.least)); few = inl refl };
  given = none;
  indices = indices;
  numbers = omega (arith, numbers, is.kept.0, ap length is.waits, length-append (waiting r) v.block.bodies);
  prompt = none_begun (end_by v) (queue_of (record v { block = no_bodies }) s) refl;
  full = subst (All (IsFull v.least)) (sym is.kept.1) full;
  last = is_last v.least s.last v.block.bodies is.last.0 is.last.1 few;
  going = λ e. absurd (let k : true ≡ false = sym over ∙ e in cc);
}

-- no byte can follow
pub held_over : (w v : Walk) (q r s : Waiting) (c : List (List Body)) → IsHeld w q → IsMoved w v q r → c ≡ [] → is_over v ≡ true → IsClosed v r s → IsHeld (record v { closed = c; block = no_bodies }) s
held_over w v q r s c held m none over is =
    held_closed (record v { closed = c }) r s (sound_without (record v { closed = c }) (sound_moved v c m.sound) over) over m.batches.few none (indices w v q r held m) (numbers w v q r held m) (full w v q r held m)
    (record { last = is.last; kept = is.kept; waits = is.waits })

-- ---- a walk that is put back

-- it takes its memory from anywhere
other_hand : (w z : Walk) (o : Option Refusal) (s : Bool) → UnlessRefused o (IsInHand w s) → UnlessRefused o (IsInHand (record w { alloc = z.alloc }) s)
other_hand w z (Some r) s h = tt
other_hand w z None true h = record { one = h.one; short = h.short; small = h.small; came = h.came; room = h.room }
other_hand w z None false h = record { place = h.place; bits = h.bits; signed = h.signed; unfinished = h.unfinished; empty = h.empty; room = h.room; fresh = h.fresh }

other_alloc : (w z : Walk) (q : Waiting) → IsHeld w q → IsHeld (record w { alloc = z.alloc }) q
other_alloc w z q held = record {
  sound = record { counted = held.sound.counted; inside = held.sound.inside; fits = held.sound.fits; hand = other_hand w z w.stop w.sized held.sound.hand };
  batches = record { full = held.batches.full; few = held.batches.few };
  given = held.given;
  indices = held.indices;
  numbers = held.numbers;
  prompt = held.prompt;
  full = held.full;
  last = held.last;
  going = held.going;
}

abbrev walk_of : Walk → ℕ → ℕ → ℕ → ℕ → ℕ → Feeding → Bool → ℕ → ℕ → Block → List (List Body) → Option Refusal → Walk
walk_of z behind end count at size_at leb sized len least block closed stop = record {
  alloc = z.alloc;
  behind = behind;
  end = end;
  count = count;
  at = at;
  size_at = size_at;
  leb = leb;
  sized = sized;
  len = len;
  least = least;
  block = block;
  closed = closed;
  stop = stop;
}

same_walk : (z w : Walk) → (z.behind ≡ w.behind) × (z.end ≡ w.end) × (z.least ≡ w.least)
    → (z.count ≡ w.count) × (z.at ≡ w.at) × (z.size_at ≡ w.size_at) × (z.leb ≡ w.leb) × (z.sized ≡ w.sized) × (z.len ≡ w.len) → z.block ≡ w.block → (z.closed ≡ w.closed) × (z.stop ≡ w.stop)
    → walk_of z z.behind z.end z.count z.at z.size_at z.leb z.sized z.len z.least z.block z.closed z.stop ≡ walk_of z w.behind w.end w.count w.at w.size_at w.leb w.sized w.len w.least w.block w.closed w.stop
same_walk z w (behind, end, least) (count, at, size_at, leb, sized, len) block (closed, stop) = rw (behind, end, least, count, at, size_at, leb, sized, len, block, closed, stop) refl

-- a walk on the way, and the queue
pub record IsOnWay (w x : Walk) (q p : Waiting) : Type 0 where
  pub starts : Starts w.block x
  pub kept : (x.end ≡ w.end) × (x.behind ≡ w.behind) × (x.least ≡ w.least)
  pub queue : p ≡ q

pub held_back : (w x z : Walk) (p q : Waiting) (saved : Saved) → IsHeld w q → w.stop ≡ None
    → saved ≡ record { count = w.count; at = w.at; size_at = w.size_at; leb = w.leb; sized = w.sized; len = w.len; mark = mark_of w.block }
    → IsOnWay w x q p
    → (z.count ≡ saved.count) × (z.at ≡ saved.at) × (z.size_at ≡ saved.size_at) × (z.leb ≡ saved.leb) × (z.sized ≡ saved.sized) × (z.len ≡ saved.len)
    → ((block : Block) → saved.mark ≡ mark_of block → Starts block x → z.block ≡ block)
    → (z.closed ≡ []) × (z.stop ≡ None) × (z.behind ≡ x.behind) × (z.end ≡ x.end) × (z.least ≡ x.least)
    → IsHeld z p
held_back w x z p q saved held going is way (count, at, size_at, leb, sized, len) block (closed, stop, behind, end, least) =
    let whole : z ≡ record w { alloc = z.alloc } =
    same_walk z w (behind ∙ way.kept.1, end ∙ way.kept.0, least ∙ way.kept.2) (
      count ∙ ap (λ (s : Saved). s.count) is,
      at ∙ ap (λ (s : Saved). s.at) is,
      size_at ∙ ap (λ (s : Saved). s.size_at) is,
      leb ∙ ap (λ (s : Saved). s.leb) is,
      sized ∙ ap (λ (s : Saved). s.sized) is,
      len ∙ ap (λ (s : Saved). s.len) is,
    )
    (block w.block (ap (λ (s : Saved). s.mark) is) way.starts)
    (closed ∙ sym held.given, stop ∙ sym going) in
    subst (IsHeld z) (sym way.queue) (subst (λ (k : Walk). IsHeld k q) (sym whole) (other_alloc w z q held))

-- between two calls a walk starts with what it has
pub starts_itself : (w : Walk) → w.closed ≡ [] → Starts w.block w
starts_itself w none = subst (λ (l : List (List Body)). Begins w.block (first_block l w.block)) (sym none) (begins_itself w.block)

-- the queue has no memory for its batches
pub not_moved : {A E : Type 0} (w v : Walk) (q r : Waiting) (fresh : List (List Body)) (moved : Result A E) → is_err moved ≡ true → IsOnWay w v q q → OnErr moved ((r ≡ q) × (fresh ≡ v.closed)) → IsOnWay w (record v { closed = fresh }) q r
not_moved w v q r fresh moved e way err =
    let is = when_err moved e err in
    record { starts = subst (λ (l : List (List Body)). Starts w.block (record v { closed = l })) (sym is.1) way.starts; kept = way.kept; queue = is.0 }
