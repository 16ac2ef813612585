-- What keeps the store in the regions.
use Rattle.std.proofs.Common.{◌≡◌, ℕ, zero, suc, ◌+◌, ◌*◌, ◌≤◌, inl, inr, arith, Bool, true, false, if◌then◌else◌, List, [], ◌∷◌, take, drop, length, Option, None, Some, refl, sym, ap, subst, ◌∙◌}
use Rattle.std.specs.Prelude.{slice_get, slice_set, ◌≢◌}
use Rattle.std.proofs.lemmas.Bool.{cases_eq}
use Rattle.rv_isa.specs.declared.operations.Op.{Op}
use Rattle.rv_isa.specs.Steps.{Bytes, State, value_at}
use Rattle.rv_isa.specs.Runs.{AreBytes}
use Rattle.wasm_defs.specs.Values.{Value, InRange, word_of}
use Rattle.wasm_defs.specs.Memory.{page, written_at, grown}
use Rattle.image_format.specs.Environment.{words_at}
use Rattle.wasm_defs.specs.Configurations.{Store}
use Rattle.frame_layout.specs.Laws.{Does}
use Rattle.simulation.specs.Regions.{with_global, memory_now, with_memory, HasRegions, SegmentStands}
use Rattle.simulation.specs.StoreLaws.{GlobalsStand, SegmentsStand, HasRoom}
use Rattle.simulation.specs.StoreStands.{StoreStands, StoreKeptLaw, StoreStoredLaw, StoreDroppedLaw, StoreSetLaw, StoreGrownLaw}
use Rattle.simulation.proofs.Memory.Growing.{grown_memory}
use Rattle.simulation.proofs.Memory.Regions.{regions_after}
use Rattle.simulation.proofs.Memory.Standing.{global_inside, global_written, globals_below, segment_stays, segment_dropped, written_stands, bytes_stay}

-- the bytes of a state that is reached
stands_at : {code : List (Option Op)} {pages cap steps words : ℕ} {s : State} {bytes : Bytes} (store : Store) → HasRegions pages s → length bytes.memory ≡ length s.bytes.memory → HasRoom cap pages bytes
    → memory_now pages bytes ≡ store.memory → AreBytes bytes.memory → GlobalsStand bytes store.globals → ((x : ℕ) (v : Value) → slice_get store.globals x ≡ Some v → InRange v)
    → SegmentsStand bytes (length store.globals) store.segments → AreBytes bytes.passive → (d : Does code steps words s bytes) → StoreStands store pages cap d.end
stands_at {code} {pages} {cap} {steps} {words} {s} {bytes} store regions size room memory sound globals range segments passive d =
    let same = d.bytes_are in
    record {
      regions = regions_after regions size d;
      room = subst (HasRoom cap pages) (sym same) room;
      memory = ap (memory_now pages) same ∙ memory;
      are_bytes = subst (λ (b : Bytes). AreBytes b.memory) (sym same) sound;
      globals = subst (λ (b : Bytes). GlobalsStand b store.globals) (sym same) globals;
      in_range = range;
      segments = subst (λ (b : Bytes). SegmentsStand b (length store.globals) store.segments) (sym same) segments;
      passive = subst (λ (b : Bytes). AreBytes b.passive) (sym same) passive;
    }

room_at : {cap pages : ℕ} {b : Bytes} (b' : Bytes) → HasRoom cap pages b → length b'.memory ≡ length b.memory → drop (page * pages) b'.memory ≡ drop (page * pages) b.memory → HasRoom cap pages b'
room_at {cap} {pages} {b} b' room size behind =
    record { within = room.within; size = size ∙ room.size; zeros = behind ∙ room.zeros }

-- where neither the globals' bytes nor the passive ones change
pub globals_kept : (b c : Bytes) (vs : List Value) → c.globals ≡ b.globals → GlobalsStand b vs → GlobalsStand c vs
globals_kept b c vs same h = record {
  within = subst (λ (l : List ℕ). 8 * length vs ≤ length l) (sym same) h.within;
  are = ap (λ (l : List ℕ). words_at l 0 (length vs)) same ∙ h.are;
}

pub segment_kept : (b c : Bytes) (x : ℕ) (bytes : List ℕ) → c.globals ≡ b.globals → c.passive ≡ b.passive → SegmentStands b x bytes → SegmentStands c x bytes
segment_kept b c x bytes same passive h = record {
  from = h.from;
  inside = subst (λ (l : List ℕ). 8 * (x + 2) ≤ length l) (sym same) h.inside;
  length_is = ap (λ (l : List ℕ). value_at 8 (8 * x) l) same ∙ h.length_is;
  address_is = ap (λ (l : List ℕ). value_at 8 (8 * (x + 1)) l) same ∙ h.address_is;
  within = subst (λ (l : List ℕ). h.from + length bytes ≤ length l) (sym passive) h.within;
  bytes_are = ap (λ (l : List ℕ). take (length bytes) (drop h.from l)) passive ∙ h.bytes_are;
}

pub segments_kept : (b c : Bytes) (globals : ℕ) (segments : List (List ℕ)) → c.globals ≡ b.globals → c.passive ≡ b.passive → SegmentsStand b globals segments → SegmentsStand c globals segments
segments_kept b c globals segments same passive h x bytes is = segment_kept b c (globals + 2 * x) bytes same passive (h x bytes is)

pub store_kept : StoreKeptLaw
store_kept code store pages cap steps words s bytes h memory globals passive d =
    stands_at store h.regions (ap length memory) (room_at bytes h.room (ap length memory) (ap (drop (page * pages)) memory)) (ap (take (page * pages)) memory ∙ h.memory)
    (subst AreBytes (sym memory) h.are_bytes) (globals_kept s.bytes bytes store.globals globals h.globals) h.in_range (segments_kept s.bytes bytes (length store.globals) store.segments globals passive h.segments) (subst AreBytes (sym passive) h.passive) d

pub store_stored : StoreStoredLaw
store_stored code store pages cap steps words memory s h w d =
    let there : written_at (memory_now pages s.bytes) w.place w.bytes ≡ Some memory = ap (λ (l : List ℕ). written_at l w.place w.bytes) h.memory ∙ w.is in
    let now = written_stands s.bytes pages w.place w.bytes memory h.regions.whole there in
    stands_at (record store { memory = memory }) h.regions now.size (room_at (with_memory s.bytes memory) h.room now.size now.behind) now.memory_is
    (bytes_stay s.bytes pages w.place w.bytes memory h.are_bytes w.sound there) (globals_kept s.bytes (with_memory s.bytes memory) store.globals refl h.globals) h.in_range
    (segments_kept s.bytes (with_memory s.bytes memory) (length store.globals) store.segments refl refl h.segments) h.passive d

range_set : (vs : List Value) (x : ℕ) (v : Value) → ((k : ℕ) (u : Value) → slice_get vs k ≡ Some u → InRange u) → InRange v → (k : ℕ) (u : Value) → slice_get (slice_set vs x v) k ≡ Some u → InRange u
range_set [] x v old new k u e = absurd cc
range_set (t ∷ vs) zero v old new zero u e = let same : v ≡ u = cc in subst InRange same new
range_set (t ∷ vs) zero v old new (suc k) u e = old (suc k) u e
range_set (t ∷ vs) (suc x) v old new zero u e = old zero u e
range_set (t ∷ vs) (suc x) v old new (suc k) u e = range_set vs x v (λ j. old (suc j)) new k u e

length-set : {A : Type 0} (vs : List A) (x : ℕ) (v : A) → length (slice_set vs x v) ≡ length vs
length-set [] x v = refl
length-set (u ∷ vs) zero v = refl
length-set (u ∷ vs) (suc x) v = ap suc (length-set vs x v)

pub store_set : StoreSetLaw
store_set code store pages cap steps words x v s h less range d =
    let inside = global_inside s.bytes store.globals x h.globals less in
    let after = with_global s.bytes x (word_of v) in
    let segments : SegmentsStand after (length store.globals) store.segments = λ y bytes is.
    segment_stays s.bytes x (word_of v) (length store.globals + 2 * y) bytes inside (λ e. absurd (omega (arith, e))) (λ e. absurd (omega (arith, e))) (h.segments y bytes is) in
    stands_at (record store { globals = slice_set store.globals x v }) h.regions refl (room_at after h.room refl refl) h.memory h.are_bytes
    (global_written s.bytes store.globals x v h.globals less range) (range_set store.globals x v h.in_range range)
    (subst (λ (n : ℕ). SegmentsStand after n store.segments) (sym (length-set store.globals x v)) segments) h.passive d

-- ---- a data segment that is dropped

set_same : {A : Type 0} (vs : List A) (x : ℕ) (u v w : A) → slice_get vs x ≡ Some u → slice_get (slice_set vs x v) x ≡ Some w → w ≡ v
set_same [] x u v w e is = absurd cc
set_same (t ∷ vs) zero u v w e is = cc
set_same (t ∷ vs) (suc x) u v w e is = set_same vs x u v w e is

set_other : {A : Type 0} (vs : List A) (x y : ℕ) (v w : A) → y ≢ x → slice_get (slice_set vs x v) y ≡ Some w → slice_get vs y ≡ Some w
set_other [] x y v w differs is = is
set_other (t ∷ vs) zero zero v w differs is = absurd (differs refl)
set_other (t ∷ vs) zero (suc y) v w differs is = is
set_other (t ∷ vs) (suc x) zero v w differs is = is
set_other (t ∷ vs) (suc x) (suc y) v w differs is = set_other vs x y v w (λ e. differs (ap suc e)) is

pub store_dropped : StoreDroppedLaw
store_dropped code store pages cap steps words x bytes s h there d =
    let own = h.segments x bytes there in
    let at = length store.globals + 2 * x in
    let inside : 8 * (at + 1) ≤ length s.bytes.globals = omega (arith, own.inside) in
    let after = with_global s.bytes at 0 in
    stands_at (record store { segments = slice_set store.segments x [] }) h.regions refl (room_at after h.room refl refl) h.memory h.are_bytes
    (globals_below s.bytes store.globals at 0 h.globals inside (omega arith)) h.in_range (others own inside) h.passive d
  where
    others : (own : SegmentStands s.bytes (length store.globals + 2 * x) bytes) → 8 * (length store.globals + 2 * x + 1) ≤ length s.bytes.globals → SegmentsStand (with_global s.bytes (length store.globals + 2 * x) 0) (length store.globals) (slice_set store.segments x [])
    others own inside y now is =
        elim (cases_eq y x) [
          | inl same ↦ rw (same, set_same store.segments x bytes [] now there (subst (λ (k : ℕ). slice_get (slice_set store.segments x []) k ≡ Some now) same is)) (segment_dropped s.bytes (length store.globals + 2 * x) bytes own)
          | inr differs ↦ segment_stays s.bytes (length store.globals + 2 * x) 0 (length store.globals + 2 * y) now inside (λ e. differs (omega (arith, e))) (λ e. absurd (omega (arith, e))) (h.segments y now (set_other store.segments x y [] now differs is))
        ]

grown_is : (t : Bool) (l memory : List ℕ) → (if t then Some l else None) ≡ Some memory → l ≡ memory
grown_is true l memory e = cc
grown_is false l memory e = absurd cc

pub store_grown : StoreGrownLaw
store_grown i r store number more memory h e a =
    let room = h.room in
    let bytes = r.machine.bytes in
    let there : grown (memory_now r.pages bytes) more i.cap ≡ Some memory = ap (λ (l : List ℕ). grown l more i.cap) h.memory ∙ e in
    let same = a.bytes_are in
    let first : take (page * (r.pages + more)) bytes.memory ≡ memory = grown_is _ _ memory (sym (grown_memory bytes.memory r.pages more i.cap room.within room.size room.zeros) ∙ there) in
    record {
      regions = a.regions;
      room = a.room;
      memory = ap (memory_now (r.pages + more)) same ∙ first;
      are_bytes = subst (λ (b : Bytes). AreBytes b.memory) (sym same) h.are_bytes;
      globals = subst (λ (b : Bytes). GlobalsStand b store.globals) (sym same) h.globals;
      in_range = h.in_range;
      segments = subst (λ (b : Bytes). SegmentsStand b (length store.globals) store.segments) (sym same) h.segments;
      passive = subst (λ (b : Bytes). AreBytes b.passive) (sym same) h.passive;
    }
