-- What a step of reading does.
use Rattle.std.proofs.Common.{◌≡◌, ℕ, ◌+◌, ◌-◌, ◌<◌, ◌≤◌, List, [], ◌∷◌, ◌++◌, length, take, Option, Some, None, Err, refl, sym, ap, subst, ◌∙◌, arith, append_assoc, length-append, length-take, eqb, true, false, inl, inr}
use Rattle.std.proofs.Math.Seq.{drop-length}
use Rattle.std.proofs.lemmas.Bool.{cases_Bool, le-ltb, eqb-true}
use Rattle.std.proofs.lemmas.List.{append-nil}
use Rattle.wasm_defs.specs.declared.item.Item.{Item}
use Rattle.wasm_defs.specs.Fields.{Cursor, Got, Reader, past, room_of, window, run}
use Rattle.wasm_defs.specs.Entries.{Seen, note}
use Rattle.wasm_defs.specs.Outside.{position_of, Section, Listed, Nothing, rest_of_section, header, preamble, section_end, entered, inside, no_end}
use Rattle.wasm_laws.specs.Steadiness.{Advance}
use Rattle.wasm_laws.proofs.EntryLaws.{header_steady, preamble_steady}
use Rattle.wasm_laws.proofs.RowLaws.{end_steady}
use Rattle.wasm_laws.proofs.Takes.{header_takes}
use Rattle.wasm_laws.proofs.Parts.{got_is}
use Rattle.leb_feed.specs.declared.stop.Stop.{Stop}
use Rattle.leb_feed.specs.declared.stop.Stop.TheVariants as stop
use Rattle.leb_feed.specs.Reads.{Stops}
use Rattle.section_reader.specs.declared.stage.Stage.{Stage}
use Rattle.section_reader.specs.declared.stage.Stage.TheVariants.{Preamble, Between, Contents, Entries}
use Rattle.section_reader.specs.declared.steps.Steps.{Steps}
use Rattle.section_reader.specs.Counts.{IsSound}
use Rattle.section_reader.specs.Outline.{outline_row}
use Rattle.section_reader.specs.Stages.{passes, is_at_bodies, Passed, Leads, Halts, weight, IsSameButLast}
use Rattle.section_reader.specs.Onward.{HaltsOnward, IsOrdered}
use Rattle.section_reader.specs.Stepped.{Goes, GoesOnward, Stepped}
use Rattle.section_reader.proofs.Sound.{Moved, sound_moved, sound_entered, sound_noted}
use Rattle.section_reader.proofs.OutlineRuns.{outline_steady, passed_over, not_passed}
use Rattle.section_reader.proofs.Telling.{ordered_between, preamble_run, header_run, header_ordered, front_run, front_ordered, front_apart, entry_run, entry_ordered, entry_behind, back_run, pass_run}
use Rattle.section_reader.proofs.Leading.{preamble_leads, header_leads, front_leads, entry_leads, back_leads, pass_leads}

-- outside the bodies
abbrev HaltsApart : Stage → Seen → Cursor → Stop → Type 0
HaltsApart stage seen c s = IsOrdered stage seen → is_at_bodies stage ≡ false → HaltsOnward stage seen c s

-- reading stops, and all is as it was
pub stops_at : (old : Steps) (there : Stage) (c : Cursor) (s : Stop) → old.stage ≡ there → Halts there old.seen c s → HaltsApart there old.seen c s → Stepped old c (Err s) old c
stops_at old there c s e h k = (
  subst (λ (p : Stage). Halts p old.seen c s) (sym e) h,
  refl,
  refl,
  subst (λ (p : Stage). HaltsApart p old.seen c s) (sym e) k,
)

-- ---- bytes that were taken

passed_of : (c d : Cursor) → Advance c d → Passed c d
passed_of c d p = record { taken = p.taken; parts = p.parts; at = p.at }

moved_of : (c d : Cursor) → Passed c d → Moved 0 c d
moved_of c d p = record { more = omega (arith, p.at); same = omega (arith, p.at, ap length p.parts, length-append p.taken d.rest) }

moved_some : (c d : Cursor) → Passed c d → length d.rest < length c.rest → Moved 1 c d
moved_some c d p fewer = record { more = omega (arith, p.at, fewer, ap length p.parts, length-append p.taken d.rest); same = omega (arith, p.at, ap length p.parts, length-append p.taken d.rest) }

pub passed_then : (c d e : Cursor) → Passed c d → Passed d e → Passed c e
passed_then c d e p q = record {
  taken = p.taken ++ q.taken;
  parts = p.parts ∙ ap (λ (l : List ℕ). p.taken ++ l) q.parts ∙ sym (append_assoc p.taken q.taken e.rest);
  at = omega (arith, p.at, q.at, length-append p.taken q.taken);
}

fewer_left : (c d : Cursor) → Passed c d → length d.rest ≤ length c.rest
fewer_left c d p = omega (arith, ap length p.parts, length-append p.taken d.rest)

same_entered : (seen : Seen) (id : ℕ) → IsSameButLast seen (entered seen id)
same_entered seen id =
    elim (cases_Bool (eqb id 0)) [
      | inl custom ↦ rw custom refl
      | inr other ↦ rw other refl
    ]

-- ---- steps

abbrev pub standing : Stage → Seen → Steps
standing stage seen = record { stage = stage; seen = seen }

module _ (stage : Stage) (seen : Seen) (c d : Cursor) (sound : IsSound seen c) where
  tells_from : (there : Stage) (item : Option Item) (new : Steps) (e : Cursor) → stage ≡ there → (IsOrdered there seen → GoesOnward (standing there seen) c item new e) → IsOrdered stage seen → GoesOnward (standing stage seen) c item new e
  tells_from there item new e is h = subst (λ (p : Stage). IsOrdered p seen → GoesOnward (standing p seen) c item new e) (sym is) h

  leads_from : (there next : Stage) (after : Seen) (e : Cursor) → stage ≡ there → Leads there seen c None next after e → Leads stage seen c None next after e
  leads_from there next after e is h = subst (λ (p : Stage). Leads p seen c None next after e) (sym is) h

  pub preamble_goes : (v : ℕ) → stage ≡ Preamble → preamble c ≡ Got v d → Goes (standing stage seen) c None (standing Between seen) d
  preamble_goes v is read =
      let p = passed_of c d (got_is (λ x e. Advance c e) (preamble c) v d read ((preamble_steady []).moves c)) in
      let fewer = fewer_left c d p in
      record {
        leads = leads_from Preamble Between seen d is (preamble_leads seen c d v read);
        sound = sound_moved seen c d sound (moved_of c d p);
        less = λ _. omega (arith, fewer, ap weight is);
        same = λ _. refl;
        passed = p;
        tells = tells_from Preamble None (standing Between seen) d is (λ o. record {
          tells = λ _. record { told = []; sections = tt; run = preamble_run seen c d v read };
          apart = λ _ _. refl;
          ordered = ordered_between Preamble seen o;
          behind = tt;
        });
      }

  pub front_goes : (id n : ℕ) → stage ≡ Contents id → (outline_row id).front seen c ≡ Got n d → Goes (standing stage seen) c None (standing (Entries id n) seen) d
  front_goes id n is read =
      let p = passed_of c d (got_is (λ x e. Advance c e) ((outline_row id).front seen c) n d read (((outline_steady id).front seen).moves c)) in
      let fewer = fewer_left c d p in
      record {
        leads = leads_from (Contents id) (Entries id n) seen d is (front_leads seen c d id n read);
        sound = sound_moved seen c d sound (moved_of c d p);
        less = λ _. omega (arith, fewer, ap weight is);
        same = λ _. refl;
        passed = p;
        tells = tells_from (Contents id) None (standing (Entries id n) seen) d is (λ o. record {
          tells = λ _. record { told = []; sections = tt; run = front_run seen c d id n read };
          apart = λ _ _. front_apart seen c d id n read;
          ordered = front_ordered seen c d id n read o;
          behind = tt;
        });
      }

  pub header_goes : (h : ℕ × ℕ) (b : ℕ) (bytes : List ℕ) → stage ≡ Between → c.rest ≡ b ∷ bytes → header seen c ≡ Got h d → Goes (standing stage seen) c None (standing (Contents h.0) (entered seen h.0)) (inside d h.1)
  header_goes h b bytes is some read =
      let p = passed_of c d (got_is (λ x e. Advance c e) (header seen c) h d read ((header_steady [] seen).moves c)) in
      let fewer = got_is (λ x e. length e.rest < length c.rest) (header seen c) h d read ((header_takes seen).some c) in
      record {
        leads = leads_from Between (Contents h.0) (entered seen h.0) (inside d h.1) is (header_leads seen c d h b bytes some read);
        sound = sound_entered seen d h.0 h.1 (sound_moved seen c d sound (moved_of c d p));
        less = λ _. omega (arith, fewer, ap weight is);
        same = λ _. same_entered seen h.0;
        passed = record { taken = p.taken; parts = p.parts; at = p.at };
        tells = tells_from Between None (standing (Contents h.0) (entered seen h.0)) (inside d h.1) is (λ o. record {
          tells = λ _. record {
            told = Section c.at (position_of b) ∷ [];
            sections = tt;
            run = header_run seen c d h b bytes some read;
          };
          apart = λ _ _. refl;
          ordered = header_ordered seen c d h read o;
          behind = tt;
        });
      }

  pub entry_goes : (id n : ℕ) (x : Item) → stage ≡ Entries id n → 0 < n → (outline_row id).entry seen c ≡ Got (Listed x) d → Goes (standing stage seen) c (Some x) (standing (Entries id (n - 1)) (note seen x)) d
  entry_goes id n x is some read =
      let p = passed_of c d (got_is (λ y e. Advance c e) ((outline_row id).entry seen c) (Listed x) d read (((outline_steady id).entry seen).moves c)) in
      let fewer = got_is (λ y e. length e.rest < length c.rest) ((outline_row id).entry seen c) (Listed x) d read (((outline_steady id).takes seen).some c) in
      record {
        leads = subst (λ (q : Stage). Leads q seen c (Some x) (Entries id (n - 1)) (note seen x) d) (sym is) (entry_leads seen c d id n x some read);
        sound = sound_noted seen x c d sound (moved_some c d p fewer);
        less = λ h. absurd cc;
        same = λ h. absurd cc;
        passed = p;
        tells = tells_from (Entries id n) (Some x) (standing (Entries id (n - 1)) (note seen x)) d is (λ o. record {
          tells = λ _. record { told = []; sections = tt; run = entry_run id n seen c d x some read o };
          apart = λ _ h. absurd cc;
          ordered = entry_ordered id n seen c d x some read o;
          behind = entry_behind id n seen c d x some read o;
        });
      }

  -- a section ends: the cursor is inside no section then
  pub back_goes : (id : ℕ) (e : Cursor) → stage ≡ Entries id 0 → (outline_row id).back c ≡ Got tt d → section_end d ≡ Got tt e → Goes (standing stage seen) c None (standing Between seen) e
  back_goes id e is back over =
      let p = passed_of c d (got_is (λ x f. Advance c f) ((outline_row id).back c) tt d back ((outline_steady id).back.moves c)) in
      let q = left_passed e over in
      let both = passed_then c d e p q in
      let fewer = fewer_left c e both in
      record {
        leads = leads_from (Entries id 0) Between seen e is (back_leads seen c d id e back over);
        sound = sound_moved seen c e sound (moved_of c e both);
        less = λ _. omega (arith, fewer, ap weight is);
        same = λ _. refl;
        passed = both;
        tells = tells_from (Entries id 0) None (standing Between seen) e is (λ o. record {
          tells = λ apart. record { told = []; sections = tt; run = back_run id seen c d e apart back over };
          apart = λ _ _. refl;
          ordered = ordered_between (Entries id 0) seen o;
          behind = tt;
        });
      }
    where
      left_passed : (e : Cursor) → section_end d ≡ Got tt e → Passed d e
      left_passed e over =
          let h = got_is (λ x f. (room_of d ≡ 0) × (f ≡ inside d no_end)) (section_end d) tt e over (end_steady.leaves d) in
          subst (λ (f : Cursor). Passed d f) (sym h.1) (record { taken = []; parts = refl; at = omega arith })

pub nothing_back : (id : ℕ) (c : Cursor) → passes id ≡ false → (outline_row id).back c ≡ Got tt c
nothing_back id c e = ap (λ (p : Reader Nothing). p c) (not_passed id e)

pub rest_back : (id : ℕ) (c : Cursor) → passes id ≡ true → (outline_row id).back c ≡ rest_of_section c
rest_back id c e = ap (λ (p : Reader Nothing). p c) (passed_over id e)

-- ---- passing over

-- all bytes that are there, where the section has more
run_there : (c : Cursor) → length c.rest < room_of c → run (length c.rest) c ≡ Got (take (length c.rest) (window c)) (past c (length c.rest))
unfolding run
run_there c short = rw (le-ltb (length (window c)) (length c.rest) (omega (arith, length-take (room_of c) c.rest))) refl

run_stops : (old : Steps) (c : Cursor) (s : Stop) → length c.rest < room_of c → Stops s (run (length c.rest) c) → Stepped old c (Err s) old c
run_stops old c (stop.Refused r) short h = absurd (let e = sym (run_there c short) ∙ h in cc)
run_stops old c stop.Wants short h = absurd (let e = sym (run_there c short) ∙ h in cc)
run_stops old c stop.NoMemory short h = (tt, refl, refl, λ order apart. tt)

pub run_stops_at : (old : Steps) (c : Cursor) (s : Stop) (n : ℕ) → n ≡ length c.rest → n < room_of c → Stops s (run n c) → Stepped old c (Err s) old c
run_stops_at old c s n e short h = run_stops old c s (omega arith) (subst (λ (k : ℕ). Stops s (run k c)) e h)

past_all : (c d : Cursor) (bytes : List ℕ) → length c.rest < room_of c → run (length c.rest) c ≡ Got bytes d → d ≡ record { at = c.at + length c.rest; rest = []; end = c.end }
past_all c d bytes short e =
    let same : past c (length c.rest) ≡ d = got_is (λ x f. past c (length c.rest) ≡ f) (run (length c.rest) c) bytes d e (rw (run_there c short) refl) in
    sym same ∙ ap (λ (l : List ℕ). record { at = c.at + length c.rest; rest = l; end = c.end }) (drop-length c.rest)

abbrev all_past : Cursor → Cursor
all_past c = record { at = c.at + length c.rest; rest = []; end = c.end }

pass_goes : (stage : Stage) (seen : Seen) (c d : Cursor) (id : ℕ) (bytes : List ℕ) → IsSound seen c → stage ≡ Entries id 0 → passes id ≡ true → 0 < length c.rest → length c.rest < room_of c
    → run (length c.rest) c ≡ Got bytes d → Goes (standing stage seen) c None (standing stage seen) d
pass_goes stage seen c d id bytes sound is passing some short e =
    subst (λ (f : Cursor). Goes (standing stage seen) c None (standing stage seen) f) (sym (past_all c d bytes short e)) there
  where
    there : Goes (standing stage seen) c None (standing stage seen) (all_past c)
    there = record {
      leads = subst (λ (q : Stage). Leads q seen c None q seen (all_past c)) (sym is) (pass_leads seen c.at c.end id c.rest passing (omega arith));
      sound = record { counts = (sound_moved {least = 0} seen c (all_past c) sound (record { more = omega arith; same = omega arith })).counts; fits = omega (arith, sound.fits) };
      less = λ _. omega (arith, some);
      same = λ _. refl;
      passed = record { taken = c.rest; parts = sym (append-nil c.rest); at = refl };
      tells = subst (λ (q : Stage). IsOrdered q seen → GoesOnward (standing q seen) c None (standing q seen) (all_past c)) (sym is) (λ o. record {
        tells = λ apart. record { told = []; sections = tt; run = pass_run seen c.at c.end id c.rest apart passing (omega arith) };
        apart = λ apart _. apart;
        ordered = o;
        behind = tt;
      });
    }

pub pass_goes_at : (stage : Stage) (seen : Seen) (c d : Cursor) (id n : ℕ) (bytes : List ℕ) → IsSound seen c → stage ≡ Entries id 0 → passes id ≡ true → n ≡ length c.rest → 0 < n → n < room_of c
    → run n c ≡ Got bytes d → Goes (standing stage seen) c None (standing stage seen) d
pass_goes_at stage seen c d id n bytes sound is passing e some short h =
    pass_goes stage seen c d id bytes sound is passing (omega arith) (omega arith) (subst (λ (k : ℕ). run k c ≡ Got bytes d) e h)

-- ---- bytes that are there

none_left : (bytes : List ℕ) → eqb (length bytes) 0 ≡ true → bytes ≡ []
none_left [] e = refl
none_left (b ∷ rest) e = absurd (let t = eqb-true (length (b ∷ rest)) 0 e in omega (t, arith))

some_left : (bytes : List ℕ) → eqb (length bytes) 0 ≡ false → (b : ℕ) × (rest : List ℕ) × (bytes ≡ b ∷ rest)
some_left [] e = absurd cc
some_left (b ∷ rest) e = (b, rest, refl)

pub none_of : (rest there : List ℕ) → rest ≡ there → eqb (length rest) 0 ≡ true → there ≡ []
none_of rest there e h = sym e ∙ none_left rest h

pub some_of : (rest there : List ℕ) → rest ≡ there → eqb (length rest) 0 ≡ false → (b : ℕ) × (bytes : List ℕ) × (there ≡ b ∷ bytes)
some_of rest there e h = subst (λ (l : List ℕ). (b : ℕ) × (bytes : List ℕ) × (l ≡ b ∷ bytes)) e (some_left rest h)
