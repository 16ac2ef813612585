-- The data segments of a module that some bytes are: their bytes are bytes of the module, which has room for all of them, and they are
-- as many as are counted.
use Rattle.std.proofs.Common.{◌≡◌, ℕ, zero, suc, ◌+◌, ◌<◌, ◌≤◌, true, List, [], ◌∷◌, ◌++◌, length, take, Option, Some, None, refl, sym, ap, subst, ◌∙◌, arith, length-append}
use Rattle.std.proofs.lemmas.Bool.{eqb-true}
use Rattle.std.proofs.lemmas.List.{take_at, drop_at, length-take-le}
use Rattle.std.proofs.lemmas.List.Elements.{All-nil, All-append, All-take, All-drop}
use Rattle.rv_isa.specs.Runs.{AreBytes}
use Rattle.wasm_defs.specs.declared.item.Constant.{Constant}
use Rattle.wasm_defs.specs.declared.item.Item.{Item}
use Rattle.wasm_defs.specs.declared.item.Item.TheVariants.{Passive, Segment}
use Rattle.wasm_defs.specs.Context.{data_count_of, segment_count_of}
use Rattle.wasm_defs.specs.Entries.{or_zero}
use Rattle.wasm_defs.specs.Faults.{Module, IsModule}
use Rattle.wasm_defs.specs.Instances.{Written, i32_value, data_of, segments_of}
use Rattle.wasm_defs.specs.Items.{each_is, bytes_are, item_is, section_is, Section, Payload, Vector, payload_is, payload_items, items_in}
use Rattle.wasm_defs.specs.Limits.{max_module}
use Rattle.wasm_defs.specs.Outside.{agrees}
use Rattle.wasm_laws.proofs.Bytes.{each_byte}
use Rattle.wasm_laws.proofs.Described.{module_is_described}
use Rattle.image_linker.specs.ImageOf.{segments_at_first, joined}
use Rattle.image_linker.proofs.LoadedMemory.{HaveBytes}
use Rattle.image_linker.proofs.NamedRows.{joined_append}

-- bytes of all active segments
abbrev pub bytes_in : List (Written ℕ) → ℕ
bytes_in [] = 0
bytes_in (w ∷ ws) = length w.1 + bytes_in ws

-- the bytes of active segments and those of the other ones are bytes, of which there are so many at most
pub record AreHeld (ws : List (Written ℕ)) (segments : List (List ℕ)) (most : ℕ) : Type 0 where
  pub bytes : HaveBytes ws
  pub others : AreBytes (joined segments)
  pub few : bytes_in ws + length (joined segments) ≤ most

-- ---- bytes of a whole are those of its parts

front_bytes : (whole front back : List ℕ) → whole ≡ front ++ back → AreBytes whole → AreBytes front
front_bytes whole front back is h =
    let small = λ (x : ℕ). x < 256 in
    subst AreBytes (take_at front back (length front) refl) (All-take small (length front) (front ++ back) (subst AreBytes is h))

back_bytes : (whole front back : List ℕ) → whole ≡ front ++ back → AreBytes whole → AreBytes back
back_bytes whole front back is h =
    let small = λ (x : ℕ). x < 256 in
    subst AreBytes (drop_at front back (length front) refl) (All-drop small (length front) (front ++ back) (subst AreBytes is h))

length_of : (whole front back : List ℕ) → whole ≡ front ++ back → length whole ≡ length front + length back
length_of whole front back is = ap length is ∙ length-append front back

-- ---- one segment

-- a run of bytes that is in other bytes
abbrev IsIn : List ℕ → List ℕ → Type 0
IsIn run bytes = AreBytes run × (length run ≤ length bytes)

in_back : (run whole front back : List ℕ) → whole ≡ front ++ back → IsIn run back → IsIn run whole
in_back run whole front back is h = (h.0, omega (arith, length_of whole front back is, h.1))

run_in : (run : ℕ × List ℕ) (at : ℕ) (bytes : List ℕ) → AreBytes bytes → bytes_are run at bytes → IsIn run.1 bytes
run_in run at bytes fits s =
    let content = back_bytes bytes s.front s.content s.parts fits in
    (subst AreBytes s.is content, omega (arith, length_of bytes s.front s.content s.parts, ap length s.is))

passive_in : (form : ℕ) (run : ℕ × List ℕ) (at : ℕ) (bytes : List ℕ) → AreBytes bytes → item_is (Passive form run) at bytes → IsIn run.1 bytes
passive_in form run at bytes fits s =
    in_back run.1 bytes s.front s.back s.parts (run_in run (at + length s.front) s.back (back_bytes bytes s.front s.back s.parts fits) s.second)

segment_in : (form : ℕ) (memory : Option (ℕ × ℕ)) (place : Constant) (run : ℕ × List ℕ) (at : ℕ) (bytes : List ℕ) → AreBytes bytes → item_is (Segment form memory place run) at bytes → IsIn run.1 bytes
segment_in form None place run at bytes fits s =
    let t = s.second in
    let after = back_bytes bytes s.front s.back s.parts fits in
    in_back run.1 bytes s.front s.back s.parts
    (in_back run.1 s.back t.front t.back t.parts (run_in run (at + length s.front + length t.front) t.back (back_bytes s.back t.front t.back t.parts after) t.second))
segment_in form (Some memory) place run at bytes fits s =
    let t = s.second in
    let u = t.second in
    let after = back_bytes s.back t.front t.back t.parts (back_bytes bytes s.front s.back s.parts fits) in
    in_back run.1 bytes s.front s.back s.parts
    (in_back run.1 s.back t.front t.back t.parts
    (in_back run.1 t.back u.front u.back u.parts (run_in run (at + length s.front + length t.front + length u.front) u.back (back_bytes t.back u.front u.back u.parts after) u.second)))

-- ---- items

none_held : (most : ℕ) → AreHeld [] [] most
none_held most = record { bytes = tt; others = All-nil (λ (x : ℕ). x < 256); few = omega arith }

items_held : (xs : List Item) (at : ℕ) (bytes : List ℕ) → AreBytes bytes → each_is item_is xs at bytes → AreHeld (data_of xs) (segments_of xs) (length bytes)
items_held [] at bytes fits s = none_held (length bytes)
items_held (Passive form run ∷ xs) at bytes fits s =
    let one = passive_in form run at s.front (front_bytes bytes s.front s.back s.parts fits) s.first in
    let rest = items_held xs (at + length s.front) s.back (back_bytes bytes s.front s.back s.parts fits) s.second in
    let later = joined (segments_of xs) in
    record {
      bytes = rest.bytes;
      others = All-append (λ (x : ℕ). x < 256) run.1 later one.0 rest.others;
      few = omega (arith, length_of bytes s.front s.back s.parts, length-append run.1 later, one.1, rest.few);
    }
items_held (Segment form memory place run ∷ xs) at bytes fits s =
    let one = segment_in form memory place run at s.front (front_bytes bytes s.front s.back s.parts fits) s.first in
    let rest = items_held xs (at + length s.front) s.back (back_bytes bytes s.front s.back s.parts fits) s.second in
    record { bytes = (one.0, rest.bytes); others = rest.others; few = omega (arith, length_of bytes s.front s.back s.parts, one.1, rest.few) }
items_held (x ∷ xs) at bytes fits s =
    let rest = items_held xs (at + length s.front) s.back (back_bytes bytes s.front s.back s.parts fits) s.second in
    record { bytes = rest.bytes; others = rest.others; few = omega (arith, length_of bytes s.front s.back s.parts, rest.few) }

-- ---- sections

have_both : (ws vs : List (Written ℕ)) → HaveBytes ws → HaveBytes vs → HaveBytes (ws ++ vs)
have_both [] vs p q = q
have_both (w ∷ ws) vs p q = (p.0, have_both ws vs p.1 q)

bytes_append : (ws vs : List (Written ℕ)) → bytes_in (ws ++ vs) ≡ bytes_in ws + bytes_in vs
bytes_append [] vs = omega arith
bytes_append (w ∷ ws) vs = omega (arith, bytes_append ws vs)

both_held : (ws vs : List (Written ℕ)) (ss ts : List (List ℕ)) (m n : ℕ) → AreHeld ws ss m → AreHeld vs ts n → AreHeld (ws ++ vs) (ss ++ ts) (m + n)
both_held ws vs ss ts m n p q =
    let same = joined_append ss ts in
    record {
      bytes = have_both ws vs p.bytes q.bytes;
      others = subst AreBytes (sym same) (All-append (λ (x : ℕ). x < 256) (joined ss) (joined ts) p.others q.others);
      few = omega (arith, bytes_append ws vs, ap length same, length-append (joined ss) (joined ts), p.few, q.few);
    }

data_append : (xs ys : List Item) → data_of (xs ++ ys) ≡ data_of xs ++ data_of ys
data_append [] ys = refl
data_append (Segment form memory place run ∷ xs) ys = ap (λ (ws : List (Written ℕ)). (i32_value place, run.1) ∷ ws) (data_append xs ys)
data_append (x ∷ xs) ys = data_append xs ys

segments_append : (xs ys : List Item) → segments_of (xs ++ ys) ≡ segments_of xs ++ segments_of ys
segments_append [] ys = refl
segments_append (Passive form run ∷ xs) ys = ap (λ (ss : List (List ℕ)). run.1 ∷ ss) (segments_append xs ys)
segments_append (Segment form memory place run ∷ xs) ys = ap (λ (ss : List (List ℕ)). [] ∷ ss) (segments_append xs ys)
segments_append (x ∷ xs) ys = segments_append xs ys

payload_held : (p : Payload) (at : ℕ) (bytes : List ℕ) → AreBytes bytes → payload_is p at bytes → AreHeld (data_of (payload_items p)) (segments_of (payload_items p)) (length bytes)
payload_held (Vector position count items) at bytes fits s =
    let listed = s.2 in
    let held = items_held items (at + length listed.front) listed.back (back_bytes bytes listed.front listed.back listed.parts fits) listed.second in
    record { bytes = held.bytes; others = held.others; few = omega (arith, length_of bytes listed.front listed.back listed.parts, held.few) }
payload_held p at bytes fits s = none_held (length bytes)

sections_held : (xs : List Section) (at : ℕ) (bytes : List ℕ) → AreBytes bytes → each_is section_is xs at bytes → AreHeld (data_of (items_in xs)) (segments_of (items_in xs)) (length bytes)
sections_held [] at bytes fits s = none_held (length bytes)
sections_held (x ∷ xs) at bytes fits s =
    let own = s.first in
    let sized = own.second in
    let first = front_bytes bytes s.front s.back s.parts fits in
    let inside = back_bytes s.front own.front own.back own.parts first in
    let content = back_bytes own.back sized.front sized.content sized.parts inside in
    let listed = payload_items x.payload in
    let later = items_in xs in
    let most = length sized.content + length s.back in
    let one = payload_held x.payload (at + length own.front + length sized.front) sized.content content sized.is in
    let rest = sections_held xs (at + length s.front) s.back (back_bytes bytes s.front s.back s.parts fits) s.second in
    let both = both_held (data_of listed) (data_of later) (segments_of listed) (segments_of later) (length sized.content) (length s.back) one rest in
    let active : AreHeld (data_of (listed ++ later)) (segments_of listed ++ segments_of later) most =
    subst (λ (ws : List (Written ℕ)). AreHeld ws (segments_of listed ++ segments_of later) most) (sym (data_append listed later)) both in
    let all : AreHeld (data_of (listed ++ later)) (segments_of (listed ++ later)) most =
    subst (λ (ss : List (List ℕ)). AreHeld (data_of (listed ++ later)) ss most) (sym (segments_append listed later)) active in
    record {
      bytes = all.bytes;
      others = all.others;
      few = omega (arith, length_of bytes s.front s.back s.parts, length_of s.front own.front own.back own.parts, length_of own.back sized.front sized.content sized.parts, all.few);
    }

-- ---- modules

pub segments_are_held : (bytes : List ℕ) (m : Module) → AreBytes bytes → IsModule bytes m → AreHeld (data_of m.items) (segments_of m.items) max_module
segments_are_held bytes m fits is =
    let d = module_is_described bytes m (each_byte bytes fits) is in
    let whole = d.1.spelled.spelled in
    let behind = back_bytes bytes whole.front whole.back whole.parts fits in
    let second = whole.second in
    let later = back_bytes whole.back second.front second.back second.parts behind in
    let held = sections_held d.0 _ second.back later second.second in
    let short = d.1.kept.short in
    let items = subst (λ (items : List Item). AreHeld (data_of items) (segments_of items) (length second.back)) (sym d.2) held in
    record {
      bytes = items.bytes;
      others = items.others;
      few = omega (arith, items.few, length_of bytes whole.front whole.back whole.parts, length_of whole.back second.front second.back second.parts, short);
    }

-- ---- the first ones, as many as are counted

pub first_bytes : (n : ℕ) (ss : List (List ℕ)) → AreBytes (joined ss) → AreBytes (joined (take n ss))
first_bytes zero ss bytes = All-nil (λ (x : ℕ). x < 256)
first_bytes (suc n) [] bytes = bytes
first_bytes (suc n) (s ∷ ss) bytes =
    let own = front_bytes (s ++ joined ss) s (joined ss) refl bytes in
    All-append (λ (x : ℕ). x < 256) s (joined (take n ss)) own (first_bytes n ss (back_bytes (s ++ joined ss) s (joined ss) refl bytes))

all_listed : (xs : List Item) → length (segments_of xs) ≡ segment_count_of xs
all_listed [] = refl
all_listed (Passive form run ∷ xs) = ap suc (all_listed xs)
all_listed (Segment form memory place run ∷ xs) = ap suc (all_listed xs)
all_listed (x ∷ xs) = all_listed xs

first_length : (count : Option ℕ) (ss : List (List ℕ)) → agrees count (length ss) ≡ true → length (take (or_zero count) ss) ≡ or_zero count
first_length None ss agree = refl
first_length (Some n) ss agree = length-take-le n ss (omega (arith, eqb-true (length ss) n agree))

pub segments_are_counted : (bytes : List ℕ) (m : Module) → AreBytes bytes → IsModule bytes m → length (segments_at_first m) ≡ or_zero (data_count_of m.items)
segments_are_counted bytes m fits is =
    let d = module_is_described bytes m (each_byte bytes fits) is in
    let agree : agrees (data_count_of m.items) (segment_count_of m.items) ≡ true =
    subst (λ (items : List Item). agrees (data_count_of items) (segment_count_of items) ≡ true) (sym d.2) d.1.spelled.counted in
    first_length (data_count_of m.items) (segments_of m.items) (subst (λ (n : ℕ). agrees (data_count_of m.items) n ≡ true) (sym (all_listed m.items)) agree)
