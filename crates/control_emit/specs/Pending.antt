-- Labels that are open over the instruction words of a function: each keeps the indices of the jumps to it that are still to be
-- patched.
use Rattle.std.specs.Prelude.{◌≡◌, ◌≤◌, ◌<◌, ℕ, zero, suc, ◌+◌, ◌==◌, Bool, false, List, [], ◌∷◌, Option, None, Some, length, slice_set, slice_index_or, map, reverse, if◌then◌else◌}
use Rattle.rv_isa.specs.declared.operations.Op.TheVariants.{Auipc, Jalr}
use Rattle.rv_isa.specs.Runs.{hi, lo}
use Rattle.rv_isa.specs.Words.{word_of}
use Rattle.frame_layout.specs.Macros.{x0, t3, distance}
use Rattle.frame_layout.specs.Templates.{Label}
use Rattle.control_emit.specs.declared.labels.Jump.{Jump}
use Rattle.control_emit.specs.declared.labels.Open.{Open}

-- an open label: the height below its block, how many values a branch to it takes along, where it leads if that is known, where the
-- test of an `if` jumps that had no `else` yet, and the jumps to the block's end, the last one first
pub record Pending : Type 0 where
  pub base : ℕ
  pub takes : ℕ
  pub start : Option ℕ
  pub test : Option ℕ
  pub jumps : List ℕ

-- ---- how they are kept: all jumps are in one list, and each names the one before it to the same end

abbrev pub no_jump : Jump
no_jump = record { place = 0; before = None }

abbrev pub jump_at : List Jump → ℕ → Jump
jump_at jumps k = slice_index_or jumps k no_jump

abbrev pub is_at : ℕ → Option ℕ → Bool
is_at n None = false
is_at n (Some k) = k == n

-- the indices of a jump among the first n, of the one that it names, and so on
abbrev pub chain : List Jump → (n : ℕ) → Option ℕ → List ℕ
chain jumps zero last = []
chain jumps (suc n) last =
    if is_at n last then (jump_at jumps n).place ∷ chain jumps n (jump_at jumps n).before else chain jumps n last

abbrev pub pending_of : List Jump → Open → Pending
pending_of jumps l = record { base = l.base; takes = l.takes; start = l.start; test = l.test; jumps = chain jumps (length jumps) l.last_jump }

-- the innermost first
abbrev pub pending_in : List Jump → List Open → List Pending
pending_in jumps ls = reverse (map (pending_of jumps) ls)

-- a jump among the first n is named, if one is
abbrev pub IsBefore : ℕ → Option ℕ → Type 0
IsBefore n None = Unit {0}
IsBefore n (Some k) = k < n

abbrev pub AreLinked : List Jump → Type 0
AreLinked jumps = (k : ℕ) → IsBefore k (jump_at jumps k).before

-- ---- what is known of a label, its jumps aside

pub record Shape : Type 0 where
  pub base : ℕ
  pub takes : ℕ
  pub start : Option ℕ

abbrev pub shape_of : Pending → Shape
shape_of l = record { base = l.base; takes = l.takes; start = l.start }

abbrev pub shapes : List Pending → List Shape
shapes = map shape_of

-- where a block ends, and where an `if` goes on whose condition is zero
pub record Ends : Type 0 where
  pub other : ℕ
  pub end : ℕ

abbrev pub place_or : Option ℕ → ℕ → ℕ
place_or None end = end
place_or (Some start) end = start

abbrev pub label_of : Shape → Ends → Label
label_of s e = record { base = s.base; takes = s.takes; place = place_or s.start e.end }

-- the labels, once it is known where their blocks end
abbrev pub named : List Shape → List Ends → List Label
named [] ends = []
named (s ∷ ss) [] = []
named (s ∷ ss) (e ∷ es) = label_of s e ∷ named ss es

-- ---- what the words are, once it is known where the blocks end

-- a jump at an index leads there
abbrev pub patched : (there place : ℕ) → List ℕ → List ℕ
patched there place words =
    slice_set (slice_set words place (word_of (Auipc t3 (hi (distance place there))))) (place + 1) (word_of (Jalr x0 t3 (lo (distance place there))))

abbrev pub all_patched : (there : ℕ) → List ℕ → List ℕ → List ℕ
all_patched there [] words = words
all_patched there (p ∷ ps) words = all_patched there ps (patched there p words)

abbrev pub test_patched : (there : ℕ) → Option ℕ → List ℕ → List ℕ
test_patched there None words = words
test_patched there (Some p) words = patched there p words

abbrev pub filled : Pending → Ends → List ℕ → List ℕ
filled l e words = all_patched e.end l.jumps (test_patched e.other l.test words)

abbrev pub meaning : List Pending → List Ends → List ℕ → List ℕ
meaning [] ends words = words
meaning (l ∷ ls) [] words = words
meaning (l ∷ ls) (e ∷ es) words = meaning ls es (filled l e words)

-- ---- the jumps that are still to be patched are within so many words

abbrev pub AreWithin : ℕ → List ℕ → Type 0
AreWithin n [] = Unit {0}
AreWithin n (p ∷ ps) = (p + 2 ≤ n) × AreWithin n ps

abbrev pub IsTestWithin : ℕ → Option ℕ → Type 0
IsTestWithin n None = Unit {0}
IsTestWithin n (Some p) = p + 2 ≤ n

abbrev pub IsWithin : ℕ → Pending → Type 0
IsWithin n l = IsTestWithin n l.test × AreWithin n l.jumps

abbrev pub Within : ℕ → List Pending → Type 0
Within n [] = Unit {0}
Within n (l ∷ ls) = IsWithin n l × Within n ls

-- ---- what holds of the labels that are kept: their values are low, and they name jumps among so many

abbrev pub most_base : ℕ
most_base = 0x8000_0000

abbrev pub IsKept : ℕ → Open → Type 0
IsKept n l = (l.base + l.takes < most_base) × IsBefore n l.last_jump

abbrev pub AreKept : ℕ → List Open → Type 0
AreKept n [] = Unit {0}
AreKept n (l ∷ ls) = IsKept n l × AreKept n ls

-- ---- labels that are named

abbrev pub AreBelow : ℕ → List ℕ → Type 0
AreBelow n [] = Unit {0}
AreBelow n (l ∷ ls) = (l < n) × AreBelow n ls

-- ---- changes

-- one jump more
abbrev pub with_jump : ℕ → Pending → Pending
with_jump n l = record l { jumps = n ∷ l.jumps }

abbrev pub jumping : (place label : ℕ) → List Pending → List Pending
jumping n k [] = []
jumping n zero (l ∷ ls) = with_jump n l ∷ ls
jumping n (suc k) (l ∷ ls) = l ∷ jumping n k ls

-- one jump fewer: the last one is dropped, unless the label's index is known, so that no jump to it waits
abbrev pub fewer : (start : Option ℕ) → List ℕ → List ℕ
fewer None [] = []
fewer None (p ∷ ps) = ps
fewer (Some n) ps = ps

abbrev pub unjumped : (label : ℕ) → List Pending → List Pending
unjumped k [] = []
unjumped zero (l ∷ ls) = record l { jumps = fewer l.start l.jumps } ∷ ls
unjumped (suc k) (l ∷ ls) = l ∷ unjumped k ls

abbrev pub all_unjumped : (labels : List ℕ) → List Pending → List Pending
all_unjumped [] ls = ls
all_unjumped (k ∷ ks) ls = all_unjumped ks (unjumped k ls)

-- the innermost label's `if` has had its `else`
abbrev pub TakesTest : Option ℕ → List Pending → List Pending → Type 0
TakesTest test [] new = ⊥
TakesTest test (l ∷ ls) new = (test ≡ l.test) × (new ≡ record l { test = None } ∷ ls)

abbrev pub end_at : (label : ℕ) → List Ends → ℕ
end_at k [] = 0
end_at zero (e ∷ es) = e.end
end_at (suc k) (e ∷ es) = end_at k es
