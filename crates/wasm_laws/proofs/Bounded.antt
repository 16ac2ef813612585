-- Reading goes no further than the limit on a module's bytes.
use Rattle.std.proofs.Common.{◌≡◌, ℕ, zero, suc, ◌+◌, ◌-◌, ◌≤◌, ◌<◌, List, [], ◌∷◌, ◌++◌, length, drop, refl, sym, ap, ◌∙◌, arith, length-drop, length-take, inl, inr}
use Rattle.std.specs.Prelude.{nat_lt, if◌then◌else◌}
use Rattle.std.proofs.lemmas.Bool.{cases_Bool, cases_lt, lt-ltb, le-ltb, le-leb, lt-leb}
use Rattle.wasm_defs.specs.declared.fault.Kind.TheVariants.{Limit}
use Rattle.wasm_defs.specs.Limits.{max_module}
use Rattle.wasm_defs.specs.Fields.{Cursor, Read, Got, Fault, Wants, Reader, ◌>>=◌, done, refused, past, room_of, window, byte, u32, here, fixed}
use Rattle.wasm_defs.specs.Entries.{Seen, nothing}
use Rattle.wasm_defs.specs.Outside.{Row, row, header, is_misplaced, entered, noted, inside, no_end, position_of, Ending, Refused, Run, runs_on, Next, finish, entries, contents, section, or_section, sections_up_to, magic, version, preamble, beginning, module_read}
use Rattle.wasm_laws.specs.Runs.{GoesOn, deciding_length, IsRefused}
use Rattle.wasm_laws.proofs.Steady.{IfGot, Advance, Moves, moves_of, moves_then, IsThere}
use Rattle.wasm_laws.proofs.FieldLaws.{u32_field}
use Rattle.wasm_laws.proofs.Takes.{header_takes}
use Rattle.wasm_laws.proofs.RowLaws.{SteadyRow, row_steady, end_steady}
use Rattle.wasm_laws.proofs.Windows.{past_advance}
use Rattle.wasm_laws.proofs.Comes.{Comes, comes_of, then_comes, byte_comes, u32_is_decided, fixed_comes}
use Rattle.wasm_laws.proofs.Runs.{module_goes_on}

-- between two sections, with more bytes than any module has
record Between (c : Cursor) : Type 0 where
  low : c.at ≤ max_module
  there : deciding_length ≤ c.at + length c.rest
  far : c.end ≡ no_end

-- in a section, which ends where a module may
record Within (c : Cursor) : Type 0 where
  low : c.at ≤ c.end
  high : c.end ≤ max_module
  there : deciding_length ≤ c.at + length c.rest

all_there : (c : Cursor) → Within c → IsThere c
all_there c p = omega (arith, p.low, p.high, p.there)

within_on : (c d : Cursor) → Within c → Advance c d → Within d
within_on c d p q =
    let m = moves_of c d q in
    record {
      low = omega (arith, m.at, m.room, q.end, q.fits, p.low);
      high = omega (arith, q.end, p.high);
      there = omega (arith, m.at, m.rest, p.there);
    }

-- ---- headers

enter : (c e : Cursor) (size : ℕ) → Between c → Moves c e → e.at + size ≤ max_module → Within (inside e (e.at + size))
enter c e size p m h = record { low = omega arith; high = h; there = omega (arith, p.there, m.at, m.rest) }

-- where the section entered by that header ends
abbrev Enters : ℕ × ℕ → Cursor → Type 0
Enters h e = Within (inside e h.1)

-- a header after its id
abbrev sized : ℕ → Reader (ℕ × ℕ)
sized id = do
  size ← u32
  at ← here
  if nat_lt max_module (at + size.1) then refused Limit size.0 else done (id, at + size.1)

sized_comes : (c d : Cursor) (id : ℕ) → Between c → Moves c d → d.at ≤ max_module → d.end ≡ no_end → Comes Enters (sized id d)
unfolding here
sized_comes c d id p m low far =
    let five : 5 ≤ length (window d) = omega (arith, p.there, m.at, m.rest, length-take (d.end - d.at) d.rest) in
    then_comes (λ n e. Advance d e) Enters (u32 d) _ (comes_of _ (u32 d) (u32_is_decided d five) ((u32_field.steady []).moves d))
    (λ size e q.
    elim (cases_lt max_module (e.at + size.1)) [
      | inl over ↦ rw (lt-ltb max_module (e.at + size.1) over) tt
      | inr fits ↦ rw (le-ltb max_module (e.at + size.1) fits) (enter c e size.1 p (moves_then c d e m (moves_of d e q)) fits)
    ])

header_comes : (seen : Seen) (c : Cursor) → Between c → Comes Enters (header seen c)
unfolding header
header_comes seen c p =
    let some : 1 ≤ length (window c) = omega (arith, p.low, p.there, p.far, length-take (c.end - c.at) c.rest) in
    then_comes (λ b d. (b.0 ≡ c.at) × (d ≡ past c 1)) Enters (byte c) _ (byte_comes c some)
    (λ b d q.
    elim (cases_Bool (is_misplaced seen (position_of b.1))) [
      | inl wrong ↦ rw wrong tt
      | inr right ↦ rw right (elim (cases_lt b.0 max_module) [
        | inr late ↦ rw (le-leb max_module b.0 late) tt
        | inl early ↦ rw (lt-leb max_module b.0 early) (rw q.1 (sized_comes c (past c 1) (position_of b.1) p (moves_of c (past c 1) (past_advance c 1 some)) (omega (arith, q.0)) p.far))
      ])
    ])

-- ---- runs

runs_refused : {A : Type 0} (P : A → Cursor → Type 0) (x : Read A) (f : A → Cursor → Run) → Comes P x → ((a : A) (d : Cursor) → P a d → IsRefused (f a d).ending) → IsRefused (runs_on x f).ending
runs_refused P (Got a d) f p h = h a d p
runs_refused P (Fault r) f p h = (r, refl)
runs_refused P Wants f p h = absurd p

abbrev Stops : ℕ → Next → Type 0
Stops most next = (seen : Seen) (c : Cursor) → Between c → length c.rest ≤ most → IsRefused (next seen c).ending

abbrev StopsWithin : ℕ → Next → Type 0
StopsWithin most next = (seen : Seen) (c : Cursor) → Within c → length c.rest ≤ most → IsRefused (next seen c).ending

-- where a section ends, another may begin
leave : (c d : Cursor) → Within c → room_of c ≡ 0 → d ≡ inside c no_end → Between d
leave c d p over e = rw e (record { low = omega (arith, p.low, p.high, over); there = p.there; far = refl })

no_more : (most : ℕ) (c d : Cursor) → Advance c d → length c.rest ≤ most → length d.rest ≤ most
no_more most c d p h = let m = moves_of c d p in omega (arith, m.rest)

module _ (most : ℕ) (r : Row) (steady : SteadyRow r) (next : Next) (stops : Stops most next) where
  finish_stops : StopsWithin most (finish r next)
  finish_stops seen c p h =
      runs_refused (λ x d. Advance c d) _ _ (comes_of _ _ (steady.back.decides c (all_there c p)) (steady.back.moves c))
      (λ x d q.
      let w = within_on c d p q in
      runs_refused (λ y e. (room_of d ≡ 0) × (e ≡ inside d no_end)) _ _ (comes_of _ _ (end_steady.decides d (all_there d w)) (end_steady.leaves d))
      (λ y e left. stops seen e (leave d e w left.0 left.1) (rw left.1 (no_more most c d q h))))

  entries_stop : (n : ℕ) → StopsWithin most (entries n r next)
  entries_stop zero seen c p h = finish_stops seen c p h
  entries_stop (suc n) seen c p h =
      runs_refused (λ x d. Advance c d) _ _ (comes_of _ _ ((steady.entry seen).decides c (all_there c p)) ((steady.entry seen).moves c))
      (λ x d q. entries_stop n (noted seen x) d (within_on c d p q) (no_more most c d q h))

  contents_stop : StopsWithin most (contents r next)
  contents_stop seen c p h =
      runs_refused (λ x d. Advance c d) _ _ (comes_of _ _ ((steady.front seen).decides c (all_there c p)) ((steady.front seen).moves c))
      (λ n d q. entries_stop n seen d (within_on c d p q) (no_more most c d q h))

both : {A : Type 0} (P Q : A → Cursor → Type 0) (x : Read A) → Comes P x → IfGot Q x → Comes (λ a d. P a d × Q a d) x
both P Q (Got a d) p q = (p, q)
both P Q (Fault r) p q = tt
both P Q Wants p q = p

section_stops : (most : ℕ) (next : Next) → Stops most next → (seen : Seen) (c : Cursor) → Between c → length c.rest ≤ suc most → IsRefused (section next seen c).ending
section_stops most next stops seen c p h =
    runs_refused (λ x d. Enters x d × (length d.rest < length c.rest)) (header seen c) _ (both Enters _ (header seen c) (header_comes seen c p) ((header_takes seen).some c))
    (λ x d q. contents_stop most (row x.0) (row_steady x.0) next stops (entered seen x.0) (inside d x.1) q.0 (omega (arith, q.1)))

or_stops : (most : ℕ) (next : Next) → Stops most next → (seen : Seen) (c : Cursor) (rest : List ℕ) → c.rest ≡ rest → Between c → length c.rest ≤ suc most → IsRefused (or_section next seen c rest).ending
or_stops most next stops seen c [] e p h = absurd (omega (arith, ap length e, p.low, p.there))
or_stops most next stops seen c (b ∷ rest) e p h = section_stops most next stops seen c p h

up_to_stops : (n : ℕ) (seen : Seen) (c : Cursor) → Between c → length c.rest < n → IsRefused (sections_up_to n seen c).ending
unfolding sections_up_to
up_to_stops zero seen c p h = absurd (omega arith)
up_to_stops (suc n) seen c p h = or_stops (length c.rest - 1) (sections_up_to n) (λ s d q k. up_to_stops n s d q (omega (arith, p.low, p.there))) seen c c.rest refl p (omega arith)

-- ---- modules

preamble_comes : (bytes : List ℕ) → deciding_length ≤ length bytes → Comes (λ v d. Between d) (preamble (beginning bytes))
unfolding preamble
preamble_comes bytes long =
    let c = beginning bytes in
    then_comes (λ v d. d ≡ past c 4) _ (fixed magic c) _ (fixed_comes magic c (omega (arith, length-take no_end bytes)))
    (λ m d q. rw q (then_comes (λ v e. e ≡ past (past c 4) 4) _ (fixed version (past c 4)) _ (fixed_comes version (past c 4) (omega (arith, length-take (no_end - 4) (drop 4 bytes), length-drop 4 bytes)))
    (λ v e k. rw k (record { low = omega arith; there = omega (arith, length-drop 4 (drop 4 bytes), length-drop 4 bytes); far = refl }))))

pub module_is_refused : (bytes : List ℕ) → deciding_length ≤ length bytes → IsRefused (module_read bytes).ending
module_is_refused bytes long =
    runs_refused (λ v d. Between d) (preamble (beginning bytes)) _ (preamble_comes bytes long)
    (λ v d p. up_to_stops (length d.rest + 1) nothing d p (omega arith))

-- a refused run stays
refused_stays : (r later : Run) → IsRefused r.ending → GoesOn r later → later ≡ r
refused_stays r later h goes =
    let kept : later ≡ record { parts = r.parts; ending = Refused h.0 } = rw h.1 at goes in
    kept ∙ ap (λ (e : Ending). record { parts = r.parts; ending = e }) (sym h.1)

pub module_stays : (bytes more : List ℕ) → deciding_length ≤ length bytes → module_read (bytes ++ more) ≡ module_read bytes
module_stays bytes more long = refused_stays (module_read bytes) (module_read (bytes ++ more)) (module_is_refused bytes long) (module_goes_on bytes more)
