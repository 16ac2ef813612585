-- The rule of `br_table`.
use Rattle.std.proofs.Common.{◌≡◌, true, ℕ, zero, suc, ◌+◌, ◌-◌, ◌*◌, ◌^◌, ◌<◌, ◌≤◌, ⊎_elim, false, List, [], ◌∷◌, ◌++◌, length, map, Option, Some, None, refl, sym, ap, ◌∙◌, subst, arith}
use Rattle.std.specs.Prelude.{slice_get, slice_index_or, nat_lt, Bool}
use Rattle.std.proofs.Math.Nat.{suc-mul}
use Rattle.std.proofs.lemmas.Bool.{and_parts, cases_lt, cond-true, cond-false, lt-ltb, le-ltb, false≢true}
use Rattle.std.proofs.lemmas.List.{length-append}
use Rattle.rv_isa.specs.declared.operations.Op.{Op}
use Rattle.rv_isa.specs.Steps.{State, Bytes}
use Rattle.rv_isa.specs.Runs.{place, HasAt}
use Rattle.wasm_defs.specs.declared.types.ValType.TheVariants.{I32}
use Rattle.wasm_defs.specs.declared.token.Plain.TheVariants.{BrTable}
use Rattle.wasm_defs.specs.Trees.{Seq, Simple}
use Rattle.wasm_defs.specs.Typing.{Types, Stops, Moves, with_type, only_if, are_these, are_labels}
use Rattle.wasm_defs.specs.Values.{Value, types_of_values}
use Rattle.wasm_defs.specs.Configurations.{Instance, Config, Step, belows, used}
use Rattle.wasm_defs.specs.Reductions.{simple, branch, branch_table}
use Rattle.wasm_defs.proofs.TypeLaws.{same_types-equal}
use Rattle.frame_layout.specs.Macros.{s0, s5}
use Rattle.frame_layout.specs.Slots.{operand}
use Rattle.frame_layout.specs.Templates.{Label, EmitContext, label_at, jump_words, jumps, table_front, exit_stub}
use Rattle.frame_layout.proofs.Standing.{has_first, has_rest}
use Rattle.simulation.specs.Functions.{TextPlaces}
use Rattle.simulation.proofs.Frames.Frames.{Open, labels_of, Compiled, FramesStay}
use Rattle.simulation.proofs.Frames.Follows.{same_beside, registers_of, ahead, labels_ahead, Follows, owed_of}
use Rattle.simulation.proofs.Frames.Holding.{Held, held_after, held_less, follows_less, follows_after}
use Rattle.simulation.proofs.Frames.Sitting.{has_at}
use Rattle.frame_layout.proofs.Sizes.{jump_count, jump_length, front_count, front_length}
use Rattle.simulation.proofs.Frames.Values.{Operands}
use Rattle.simulation.proofs.Control.Branches.{branch_follows, carried_pays}
use Rattle.simulation.proofs.Control.Steps.{StopsAt, stops, held_here, has_here, inside_here, high_here, stand_here}
use Rattle.simulation.proofs.Control.Tables.{chosen, front_lands}
use Rattle.simulation.proofs.Frames.Rules.{types_split}

-- ---- the labels of a table

pub record ByTable (labels : List Types) (ls : List ℕ) (l : ℕ) (from : Types) : Type 0 where
  pub takes : Types
  pub is : slice_get labels l ≡ Some takes
  pub all : are_labels labels takes ls ≡ true
  pub stops : StopsAt (I32 ∷ takes) from

with_labels : (labels : List Types) (ls : List ℕ) (l : ℕ) (from mid ts : Types) (b : Bool) → slice_get labels l ≡ Some ts → are_labels labels ts ls ≡ b → Moves (only_if b (Stops (I32 ∷ ts))) from mid → ByTable labels ls l from
with_labels labels ls l from mid ts true is e m = record { takes = ts; is = is; all = e; stops = stops (I32 ∷ ts) from mid m }
with_labels labels ls l from mid ts false is e m = absurd m.allowed

by_table : (labels : List Types) (ls : List ℕ) (l : ℕ) (from mid : Types) (o : Option Types) → slice_get labels l ≡ o → Moves (with_type o (λ ts. only_if (are_labels labels ts ls) (Stops (I32 ∷ ts)))) from mid → ByTable labels ls l from
by_table labels ls l from mid None is m = absurd m.allowed
by_table labels ls l from mid (Some ts) is m = with_labels labels ls l from mid ts (are_labels labels ts ls) is refl m

these_are : (ts : Types) (o : Option Types) → are_these ts o ≡ true → o ≡ Some ts
these_are ts None e = absurd (false≢true e)
these_are ts (Some us) e = ap (λ (xs : Types). Some xs) (same_types-equal us ts e)

-- the label that is taken takes the same types
picked_is : (labels : List Types) (ts : Types) (ls : List ℕ) (l n : ℕ) → are_labels labels ts ls ≡ true → slice_get labels l ≡ Some ts → slice_get labels (slice_index_or ls n l) ≡ Some ts
picked_is labels ts [] l n all is = is
picked_is labels ts (k ∷ ls) l zero all is = these_are ts (slice_get labels k) (and_parts (are_these ts (slice_get labels k)) (are_labels labels ts ls) all).0
picked_is labels ts (k ∷ ls) l (suc n) all is = picked_is labels ts ls l n (and_parts (are_these ts (slice_get labels k)) (are_labels labels ts ls) all).1 is

label_takes : (w : EmitContext) (os : List Open) (k : ℕ) (ts : Types) → slice_get (map (λ (o : Open). o.takes) os) k ≡ Some ts → (label_at w (labels_of os) k).takes ≡ length ts
label_takes w [] k ts e = absurd cc
label_takes w (o ∷ os) zero ts e = let same : o.takes ≡ ts = cc in ap length same
label_takes w (o ∷ os) (suc k) ts e = label_takes w os k ts e

AllTake : ℕ → List Label → Type 0
AllTake n [] = Unit {0}
AllTake n (l ∷ ls) = (l.takes ≡ n) × AllTake n ls

all_take : (w : EmitContext) (os : List Open) (ts : Types) (ls : List ℕ) (l : ℕ) → are_labels (map (λ (o : Open). o.takes) os) ts ls ≡ true → slice_get (map (λ (o : Open). o.takes) os) l ≡ Some ts
    → AllTake (length ts) (map (label_at w (labels_of os)) ls ++ label_at w (labels_of os) l ∷ [])
unfolding AllTake
all_take w os ts [] l all is = (label_takes w os l ts is, tt)
all_take w os ts (k ∷ ls) l all is =
    let parts = and_parts (are_these ts (slice_get (map (λ (o : Open). o.takes) os) k)) (are_labels (map (λ (o : Open). o.takes) os) ts ls) all in
    (label_takes w os k ts (these_are ts (slice_get (map (λ (o : Open). o.takes) os) k) parts.0), all_take w os ts ls l parts.1 is)

-- the jump of an index, or the last one
chosen_next : (n m : ℕ) → chosen (suc n) (suc m) ≡ suc (chosen n m)
chosen_next n m = ⊎_elim
    (λ less. cond-true (nat_lt (suc n) (suc m)) (suc n) (suc m) (lt-ltb (suc n) (suc m) (omega arith)) ∙ ap suc (sym (cond-true (nat_lt n m) n m (lt-ltb n m less))))
    (λ more. cond-false (nat_lt (suc n) (suc m)) (suc n) (suc m) (le-ltb (suc n) (suc m) (omega arith)) ∙ ap suc (sym (cond-false (nat_lt n m) n m (le-ltb n m more))))
    (cases_lt n m)

picks : (f : ℕ → Label) (ls : List ℕ) (l n : ℕ) → slice_get (map f ls ++ f l ∷ []) (chosen n (length (map f ls))) ≡ Some (f (slice_index_or ls n l))
picks f [] l n = ap (slice_get (f l ∷ [])) (cond-false (nat_lt n 0) n 0 (le-ltb n 0 (omega arith)))
picks f (k ∷ ls) l zero = ap (slice_get (f k ∷ (map f ls ++ f l ∷ []))) (cond-true (nat_lt 0 (suc (length (map f ls)))) 0 (suc (length (map f ls))) (lt-ltb 0 (suc (length (map f ls))) (omega arith)))
picks f (k ∷ ls) l (suc n) = ap (slice_get (f k ∷ (map f ls ++ f l ∷ []))) (chosen_next n (length (map f ls))) ∙ picks f ls l n

-- jumps of one size: where each of them is
module _ (text : List (Option Op)) (w : EmitContext) (begin j n : ℕ) where
  jumps_at : (ls : List Label) (here i : ℕ) (l : Label) → AllTake n ls → slice_get ls i ≡ Some l → HasAt text (begin + here) (jumps w j here ls)
      → HasAt text (begin + (here + i * jump_count n)) (jump_words w j (here + i * jump_count n) l) × (i * jump_count n + length (jump_words w j (here + i * jump_count n) l) ≤ length (jumps w j here ls))
  unfolding AllTake
  jumps_at [] here i l all is has = absurd cc
  jumps_at (x ∷ ls) here zero l all is has =
      let first = jump_words w j here x in
      let more = jumps w j (here + length first) ls in
      let same : x ≡ l = cc in
      let none : here ≡ here + 0 * jump_count n = omega arith in
      let has' = subst (λ (y : Label). HasAt text (begin + here) (jump_words w j here y)) same (has_first text (begin + here) first more has) in
      let size : length (jump_words w j (here + 0 * jump_count n) l) ≡ length first = ap (λ (y : Label). length (jump_words w j (here + 0 * jump_count n) y)) (sym same) ∙ jump_length w j (here + 0 * jump_count n) x ∙ sym (jump_length w j here x) in
      (subst (λ (m : ℕ). HasAt text (begin + m) (jump_words w j m l)) none has', omega (arith, size, length-append first more))
  jumps_at (x ∷ ls) here (suc i) l all is has =
      let first = jump_words w j here x in
      let more = jumps w j (here + length first) ls in
      let count : length first ≡ jump_count n = jump_length w j here x ∙ ap jump_count all.0 in
      let rest = jumps_at ls (here + length first) i l all.1 is (has_at text (begin + here + length first) (begin + (here + length first)) more (omega arith) (has_rest text (begin + here) first more has)) in
      let there : here + length first + i * jump_count n ≡ here + suc i * jump_count n = omega (arith, count, suc-mul i (jump_count n)) in
      let size : length (jump_words w j (here + suc i * jump_count n) l) ≡ length (jump_words w j (here + length first + i * jump_count n) l) = ap (λ (m : ℕ). length (jump_words w j m l)) (sym there) in
      (subst (λ (m : ℕ). HasAt text (begin + m) (jump_words w j m l)) there rest.0, omega (arith, rest.1, size, count, suc-mul i (jump_count n), length-append first more))

module _ (text : List (Option Op)) (near : length text ≤ 2 ^ 26) (inst : Instance) (places : TextPlaces) (outer : Types) (stub : HasAt text 0 exit_stub) (start : Config) (s : State) (ls : List ℕ) (l : ℕ) (rest : Seq) where
  abbrev at : List Value → Config
  at ops = record start { frame = record start.frame { operands = ops } }

  abbrev Goes : Step → Type 0
  Goes step = Follows text inst places outer start.store start.later (128 + 128 * owed_of step) (ahead (Simple (BrTable ls l) rest) + labels_ahead start.frame.labels) s step

  module _ (v : Value) (below : List Value) (m : FramesStay text inst places outer (record start.frame { operands = v ∷ below; code = Simple (BrTable ls l) rest }) start.callers s) where
    abbrev c : Config
    c = at (v ∷ below)

    abbrev k : Compiled text inst places start.frame.function
    k = m.running.compiled

    abbrev os : List Open
    os = m.running.os

    abbrev label : ℕ → Label
    label i = label_at k.around (labels_of os) i

    abbrev size : ℕ
    size = ahead (Simple (BrTable ls l) rest) + labels_ahead start.frame.labels

    abbrev h : ℕ
    h = length ((v ∷ below) ++ belows start.frame.labels)

    x : ByTable (map (λ (o : Open). o.takes) m.running.os) ls l (types_of_values (v ∷ below))
    x = by_table (map (λ (o : Open). o.takes) os) ls l (types_of_values (v ∷ below)) m.running.sits.typed.0 (slice_get (map (λ (o : Open). o.takes) os) l) refl m.running.sits.typed.1

    abbrev all : List Label
    all = map label ls ++ label l ∷ []

    abbrev count : ℕ
    count = length (map label ls)

    abbrev front : List Op
    front = table_front k.around h count (label l).takes

    abbrev index : ℕ
    index = chosen v.number count

    ty : v.ty ≡ I32
    ty = let e = x.stops.before in cc

    types : types_of_values below ≡ x.takes ++ x.stops.rest
    types = let e = x.stops.before in cc

    -- where the jumps are
    abbrev first : ℕ
    first = m.here + length (table_front m.running.compiled.around (length ((v ∷ below) ++ belows start.frame.labels)) (length (map (label_at m.running.compiled.around (labels_of m.running.os)) ls)) (label_at m.running.compiled.around (labels_of m.running.os) l).takes)

    has : HasAt text (m.running.compiled.begin + m.here) (table_front m.running.compiled.around (length ((v ∷ below) ++ belows start.frame.labels)) (length (map (label_at m.running.compiled.around (labels_of m.running.os)) ls)) (label_at m.running.compiled.around (labels_of m.running.os) l).takes
        ++ jumps m.running.compiled.around (length ((v ∷ below) ++ belows start.frame.labels) - 1) first (map (label_at m.running.compiled.around (labels_of m.running.os)) ls ++ label_at m.running.compiled.around (labels_of m.running.os) l ∷ []))
    has = has_here text near inst places outer stub c s (BrTable ls l) rest m

    inside : m.running.compiled.begin + (first + length (jumps m.running.compiled.around (length ((v ∷ below) ++ belows start.frame.labels) - 1) first (map (label_at m.running.compiled.around (labels_of m.running.os)) ls ++ label_at m.running.compiled.around (labels_of m.running.os) l ∷ []))) ≤ length text
    inside = omega (arith, inside_here text near inst places outer stub c s (BrTable ls l) rest m, length-append front (jumps k.around (h - 1) first all))

    takes_is : (label l).takes ≡ length x.takes
    takes_is = label_takes k.around os l x.takes x.is

    -- fewer jumps than words
    counted : (ns : List Label) → length ns ≤ length (jumps k.around (h - 1) first ns)
    counted ns = many ns first
      where
        many : (ns : List Label) (here : ℕ) → length ns ≤ length (jumps k.around (h - 1) here ns)
        many [] here = omega arith
        many (y ∷ ns) here =
            let first = jump_words k.around (h - 1) here y in
            omega (arith, many ns (here + length first), length-append first (jumps k.around (h - 1) (here + length first) ns), jump_length k.around (h - 1) here y)

    few : count < 2 ^ 26
    few = omega (arith, inside, counted all, length-append (map label ls) (label l ∷ []))

    held : Held text inst places outer start.frame start.callers m.running.compiled m.address below s
    held = held_less text inst places outer start.frame start.callers k m.address v below s (held_of (held_here text near inst places outer stub c s (BrTable ls l) rest m))
      where
        held_of : Held text inst places outer (record start.frame { operands = v ∷ below }) start.callers m.running.compiled m.address (v ∷ below) s → Held text inst places outer start.frame start.callers m.running.compiled m.address (v ∷ below) s
        held_of y = record { matches = y.matches; are = y.are; stay = y.stay }

    follows : Goes (branch (record start { frame = record start.frame { operands = v ∷ below } }) below (slice_index_or ls v.number l) start.frame.labels)
    follows =
        let n = length x.takes in
        let picked = label (slice_index_or ls v.number l) in
        let jump = jumps_at text k.around k.begin (h - 1) n all first index picked (all_take k.around os x.takes ls l x.all x.is) (picks label ls l v.number)
        (has_at text (k.begin + m.here + length front) (k.begin + first) (jumps k.around (h - 1) first all) (omega arith) (has_rest text (k.begin + m.here) front (jumps k.around (h - 1) first all) has)) in
        let within = inside in
        let high = high_here text near inst places outer stub c s (BrTable ls l) rest m in
        let index_is : index * jump_count (label l).takes ≡ index * jump_count n = ap (λ (i : ℕ). index * jump_count i) takes_is in
        let split = types_split x.takes x.stops.rest below types in
        let z = front_lands text near k.around (used start.callers) m.address start.frame.locals s k.begin m.here h m.at v (below ++ belows start.frame.labels)
        (held_here text near inst places outer stub c s (BrTable ls l) rest m).matches ty refl high count few (label l).takes
        (omega (arith, takes_is, split.2, length-append below (belows start.frame.labels), m.running.room)) (omega (arith, index_is, jump.1))
        (has_first text (k.begin + m.here) front (jumps k.around (h - 1) first all) has) in
        let y = z.3 in
        let here = first + index * jump_count n in
        let place_is : k.begin + (m.here + (front_count (label l).takes + index * jump_count (label l).takes)) ≡ k.begin + here = omega (arith, index_is, front_length k.around h count (label l).takes) in
        let held' = held_after text inst places outer start.frame start.callers k m.address below s y.end held y.bytes_are (y.others s0 refl) (y.others s5 refl) in
        let stand' = subst (λ (b : Bytes). Operands b (used start.callers + operand k.around.layout 0) (belows start.frame.labels)) (sym y.bytes_are) (stand_here text near inst places outer stub c s (BrTable ls l) rest m) in
        let step = branch c below (slice_index_or ls v.number l) start.frame.labels in
        let jumped = branch_follows text near inst places outer stub c k m.address here (h - 1) y.end below (held_c y.end held') (y.pc_is ∙ ap place place_is) (omega arith) (omega arith)
        size (slice_index_or ls v.number l) start.frame.labels os m.running.to m.running.there m.running.fit x.takes x.stops.rest (picked_is (map (λ (o : Open). o.takes) os) x.takes ls l v.number x.all x.is) types stand' (omega arith) jump.0 (omega (arith, jump.1)) in
        follows_less text inst places outer start.store start.later (z.0 + (12 + 12 * n)) (128 + 128 * owed_of step) size s step (omega (arith, z.2, jumped.1, carried_pays n))
        (follows_after text inst places outer start.store start.later z.0 (12 + 12 * n) size s y.end y.reaches (same_beside s.bytes y.end.bytes y.bytes_are) (registers_of s y.end y.others) step jumped.0)
      where
        held_c : (t : State) → Held text inst places outer start.frame start.callers m.running.compiled m.address below t → Held text inst places outer (record start.frame { operands = v ∷ below }) start.callers m.running.compiled m.address below t
        held_c t z = record { matches = z.matches; are = z.are; stay = z.stay }

  by_operands : (ops : List Value) → FramesStay text inst places outer (record start.frame { operands = ops; code = Simple (BrTable ls l) rest }) start.callers s → Goes (branch_table (at ops) ls l ops)
  by_operands [] m =
      let y = by_table (map (λ (o : Open). o.takes) m.running.os) ls l [] m.running.sits.typed.0 (slice_get (map (λ (o : Open). o.takes) m.running.os) l) refl m.running.sits.typed.1 in
      let e = y.stops.before in
      absurd cc
  by_operands (v ∷ below) m = follows v below m

  pub br_table_follows : FramesStay text inst places outer (record start.frame { code = Simple (BrTable ls l) rest }) start.callers s
      → Follows text inst places outer start.store start.later (128 + 128 * owed_of (simple inst start (BrTable ls l) rest)) (ahead (Simple (BrTable ls l) rest) + labels_ahead start.frame.labels) s (simple inst start (BrTable ls l) rest)
  br_table_follows m = by_operands start.frame.operands m
