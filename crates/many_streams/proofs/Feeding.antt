-- How the bytes of one module go on.
use Rattle.std.proofs.Common.{◌≡◌, inl, inr, ◌≤◌, ◌<◌, ◌+◌, ◌-◌, ℕ, zero, suc, ◌∷◌, List, [], ◌++◌, length, take, drop, All, Option, None, Result, Ok, Err, refl, sym, ap, ◌∙◌, subst, arith, append_assoc, length-append, length-take, length-drop}
use Rattle.std.specs.Prelude.{Bool}
use Rattle.std.proofs.lemmas.Bool.{cases_lt}
use Rattle.std.proofs.lemmas.List.{append-nil, take-append-drop, take_all, drop_all}
use Rattle.std.proofs.lemmas.List.Elements.{All-append}
use Rattle.wasm_defs.specs.declared.fault.Refusal.{Refusal}
use Rattle.wasm_defs.specs.declared.front_stop.FrontStop.{FrontStop}
use Rattle.wasm_defs.specs.declared.front_stop.FrontStop.TheVariants.{Refused, NoMemory}
use Rattle.wasm_defs.specs.Faults.{Rejected}
use Rattle.body_cutter.specs.Cuttings.{Cutting}
use Rattle.image_linker.specs.Judging.{IsVerdictOf}
use Rattle.body_compiler.specs.declared.batch.row.Row.{Row}
use Rattle.result_cells.specs.Rooms.{Store}
use Rattle.module_stream.specs.Limits.{max_read}
use Rattle.module_stream.specs.declared.compilation.Compilation.{Compilation}
use Rattle.module_stream.specs.Done.{IsDone, Decides}
use Rattle.module_stream.specs.Streaming.{IsGoing, MayEnd, Advances, GoesOn, with_cutter}
use Rattle.many_streams.specs.declared.intake.Intake.{Intake}
use Rattle.many_streams.specs.Intakes.{Goes}
use Rattle.module_stream.proofs.Staying.{no_module, verdict_stays}
use Rattle.module_stream.proofs.Streaming.{reading_of, going_reading}
use Rattle.many_streams.specs.declared.member.Part.{Part}
use Rattle.many_streams.specs.declared.member.Member.{Member}
use Rattle.many_streams.specs.declared.member.Member.TheVariants as member
use Rattle.many_streams.specs.Members.{KeepsCodes, IsFed, IsRefusedFor, FeedsOn, TakesOn, ResumesOn, IsMember, IsEnded, IsJudged, AreRowsOf}

-- ---- what is looked at

abbrev front : List ℕ → List ℕ
front came = take max_read came

front_length : (came : List ℕ) → length (front came) ≤ max_read
front_length came = let l = length-take max_read came in omega arith

take-append : {X : Type 0} (n : ℕ) (xs ys : List X) → take n (xs ++ ys) ≡ take n xs ++ take (n - length (take n xs)) ys
take-append zero xs ys = refl
take-append (suc n) [] ys = ap (λ (k : ℕ). take k ys) (all (suc n))
  where
    all : (a : ℕ) → a ≡ a - 0
    all a = omega arith
take-append (suc n) (x ∷ xs) ys = ap (λ l. x ∷ l) (take-append n xs ys ∙ ap (λ (k : ℕ). take n xs ++ take k ys) (fewer n (length (take n xs))))
  where
    fewer : (a b : ℕ) → a - b ≡ suc a - suc b
    fewer a b = omega arith

-- a fault of what was looked at, whatever follows as far as bytes are looked at, is one of the module's, whatever follows
pub decided_early : (came : List ℕ) (r : Refusal) → length came ≤ max_read → ((more : List ℕ) → length (came ++ more) ≤ max_read → IsVerdictOf (came ++ more) (Rejected r)) → (rest : List ℕ) → IsVerdictOf (came ++ rest) (Rejected r)
decided_early came r few v rest =
    let n = max_read - length came in
    elim (cases_lt n (length rest)) [
      | inl over ↦
          let read = came ++ take n rest in
          let full : max_read ≤ length read = omega (arith, length-append came (take n rest), length-take n rest) in
          let whole : read ++ drop n rest ≡ came ++ rest = append_assoc came (take n rest) (drop n rest) ∙ ap (λ (x : List ℕ). came ++ x) (take-append-drop n rest) in
          subst (λ (x : List ℕ). IsVerdictOf x (Rejected r)) whole (verdict_stays read (drop n rest) full (Rejected r) (v (take n rest) (omega (arith, length-append came (take n rest), length-take n rest))))
      | inr fits ↦ v rest (omega (arith, length-append came rest))
    ]

-- ---- bytes are taken

-- what is looked at decides
refused_all : (came : List ℕ) (r : Refusal) → IsVerdictOf (front came) (Rejected r) → IsVerdictOf came (Rejected r)
refused_all came r v = elim (cases_lt (length (front came)) max_read) [
  | inl less ↦ subst (λ (l : List ℕ). IsVerdictOf l (Rejected r)) (take_all max_read came (let l = length-take max_read came in omega arith)) v
  | inr full ↦ subst (λ (l : List ℕ). IsVerdictOf l (Rejected r)) (take-append-drop max_read came) (verdict_stays (front came) (drop max_read came) full (Rejected r) v)
]

module _ (came : List ℕ) (p : Part) (f : IsFed came p) where
  pub room_is : p.fed ≤ max_read
  room_is = let l = front_length came in let c = f.count in omega arith

  -- what is looked at of the next piece
  front_more : (piece part : List ℕ) → part ≡ take (max_read - p.fed) piece → front (came ++ piece) ≡ front came ++ part
  front_more piece part is = take-append max_read came piece ∙ ap (λ (l : List ℕ). front came ++ l) (ap (λ (n : ℕ). take (max_read - n) piece) (sym f.count) ∙ sym is)

  going_on : (part more : List ℕ) → length ((front came ++ part) ++ more) ≤ max_read → Goes ((front came ++ part) ++ more) p.compilation p.intake (part ++ more)
  going_on part more few =
      let e = append_assoc (front came) part more in
      subst (λ (l : List ℕ). Goes l p.compilation p.intake (part ++ more)) (sym e) (f.going (part ++ more) (omega (arith, ap length e)))

  pub may_take : (piece part : List ℕ) → part ≡ take (max_read - p.fed) piece → (bytes more : List ℕ) × Goes bytes p.compilation p.intake (part ++ more)
  may_take piece part is =
      let l = front_length (came ++ piece) in
      let e = ap length (front_more piece part is) in
      ((front came ++ part) ++ [], [], going_on part [] (let n = ap length (append-nil (front came ++ part)) in omega arith))

  pub fed_on : (piece part : List ℕ) (q : Part) → part ≡ take (max_read - p.fed) piece → All (λ b. b < 256) part → q.fed ≡ p.fed + length part
      → ((bytes more : List ℕ) → Goes bytes p.compilation p.intake (part ++ more) → Goes bytes q.compilation q.intake more) → IsFed (came ++ piece) q
  fed_on piece part q is low more_fed goes =
      let e = front_more piece part is in
      record {
        count = let c = f.count in let l = length-append (front came) part in let g = ap length e in omega arith;
        bytes = subst (All (λ b. b < 256)) (sym e) (All-append (λ b. b < 256) (front came) part f.bytes low);
        going = λ more few.
            let g = subst (λ (l : List ℕ). length (l ++ more) ≤ max_read) e few in
            subst (λ (l : List ℕ). Goes (l ++ more) q.compilation q.intake more) (sym e) (goes ((front came ++ part) ++ more) more (going_on part more g));
      }

  pub fed_refused : (piece part : List ℕ) (r : Refusal) → part ≡ take (max_read - p.fed) piece
      → ((bytes more : List ℕ) → Goes bytes p.compilation p.intake (part ++ more) → IsVerdictOf bytes (Rejected r)) → IsRefusedFor (came ++ piece) r
  fed_refused piece part r is goes rest =
      let e = front_more piece part is in
      let l = front_length (came ++ piece) in
      let whole : (front came ++ part) ++ (drop max_read (came ++ piece) ++ rest) ≡ (came ++ piece) ++ rest =
      ap (λ (x : List ℕ). x ++ (drop max_read (came ++ piece) ++ rest)) (sym e) ∙ (sym (append_assoc (front (came ++ piece)) (drop max_read (came ++ piece)) rest) ∙ ap (λ (x : List ℕ). x ++ rest) (take-append-drop max_read (came ++ piece))) in
      subst (λ (x : List ℕ). IsVerdictOf x (Rejected r)) whole
      (decided_early (front came ++ part) r (let g = ap length e in omega arith) (λ more few. goes ((front came ++ part) ++ more) more (going_on part more few)) (drop max_read (came ++ piece) ++ rest))

  pub fed_stop : (piece part : List ℕ) (e : FrontStop) (q q' : Part) → part ≡ take (max_read - p.fed) piece
      → ((bytes more : List ℕ) → Goes bytes p.compilation p.intake (part ++ more) → TakesOn bytes (Err e) q more) → FeedsOn (came ++ piece) (Err e) q'
  fed_stop piece part (Refused r) q q' is goes = fed_refused piece part r is goes
  fed_stop piece part NoMemory q q' is goes = tt

  -- ---- the bodies that were kept are validated

  goes_all : Goes (front came) p.compilation p.intake []
  goes_all = subst (λ (l : List ℕ). Goes l p.compilation p.intake []) (append-nil (front came)) (f.going [] (let l = front_length came in let n = ap length (append-nil (front came)) in omega arith))

  pub may_resume : (bytes more : List ℕ) × Goes bytes p.compilation p.intake more
  may_resume = (front came, [], goes_all)

  pub none_kept : (q : Part) → ((bytes more : List ℕ) → Goes bytes p.compilation p.intake more → ResumesOn bytes (Ok tt) q more) → q.intake ≡ None
  none_kept q goes = (goes (front came) [] goes_all).1

  pub resumed : (q : Part) → q.fed ≡ p.fed → ((bytes more : List ℕ) → Goes bytes p.compilation p.intake more → ResumesOn bytes (Ok tt) q more) → IsFed came q
  resumed q same goes = record {
    count = same ∙ f.count;
    bytes = f.bytes;
    going = λ more few. subst (λ (o : Option Intake). Goes (front came ++ more) q.compilation o more) (sym (none_kept q goes)) (goes (front came ++ more) more (f.going more few)).0;
  }

  pub resume_refused : (r : Refusal) (q : Part) → ((bytes more : List ℕ) → Goes bytes p.compilation p.intake more → ResumesOn bytes (Err (Refused r)) q more) → IsVerdictOf came (Rejected r)
  resume_refused r q goes = refused_all came r (goes (front came) [] goes_all)

  -- ---- no more bytes come

  module _ (none : p.intake ≡ None) where
    going_all : IsGoing (front came) p.compilation []
    going_all = subst (λ (o : Option Intake). Goes (front came) p.compilation o []) none goes_all

    pub may_end : MayEnd p.compilation
    may_end = (front came, f.bytes, going_all)

    pub done_on : (s : Compilation) → ((bytes : List ℕ) → All (λ b. b < 256) bytes → IsGoing bytes p.compilation [] → Decides bytes (Ok tt) s) → IsDone came s
    done_on s ends =
        let d = ends (front came) f.bytes going_all in
        elim (cases_lt (length (front came)) max_read) [
          | inl less ↦ subst (λ (l : List ℕ). IsDone l s) (take_all max_read came (let l = length-take max_read came in omega arith)) d
          | inr full ↦ absurd (no_module (front came) full d.«module» d.is.is)
        ]

    pub decided : (r : Result (Unit {0}) FrontStop) (s : Compilation) → ((bytes : List ℕ) → All (λ b. b < 256) bytes → IsGoing bytes p.compilation [] → Decides bytes r s) → Decides came r s
    decided (Ok done) s ends = done_on s ends
    decided (Err (Refused r)) s ends = refused_all came r (ends (front came) f.bytes going_all)
    decided (Err NoMemory) s ends = tt

-- ---- an error

pub stopped_so : (bytes piece more : List ℕ) (e : FrontStop) (s : Compilation) (p : Part) → Advances bytes piece (Err e) s more → TakesOn bytes (Err e) p more
stopped_so bytes piece more (Refused r) s p h = h
stopped_so bytes piece more NoMemory s p h = tt

pub resume_stops : (bytes more : List ℕ) (e : FrontStop) (s : Compilation) (p : Part) → GoesOn bytes (Err e) s more → ResumesOn bytes (Err e) p more
resume_stops bytes more (Refused r) s p h = h
resume_stops bytes more NoMemory s p h = tt

pub stopped_later : (bytes piece more : List ℕ) (e : FrontStop) (s : Compilation) (p : Part) → Advances bytes piece (Err e) s more → ResumesOn bytes (Err e) p more
stopped_later bytes piece more (Refused r) s p h = h
stopped_later bytes piece more NoMemory s p h = tt

-- ---- bodies come next, and are kept

-- what is left of a piece, as a slice
pub rest_of : (taken : ℕ) (piece : List ℕ) → take (length piece - taken) (drop taken piece) ≡ drop taken piece
rest_of taken piece = take_all (length piece - taken) (drop taken piece) (omega (arith, length-drop taken piece))

-- all of a piece was taken, or bodies come next
pub all_or_bodies : (piece : List ℕ) (taken : ℕ) (o : Option Cutting) → (o ≡ None → taken ≡ length piece) → o ≡ None → drop taken piece ≡ []
all_or_bodies piece taken o all none = let n = all none in drop_all taken piece (omega arith)

pub took_all : (bytes piece more : List ℕ) (taken : ℕ) (s : Compilation) → taken ≡ length piece → IsGoing bytes s (drop taken piece ++ more) → IsGoing bytes s more
took_all bytes piece more taken s all g = subst (λ (l : List ℕ). IsGoing bytes s (l ++ more)) (drop_all taken piece (omega arith)) g

-- the cutter was put back, and the bytes after the bodies come next
pub put_back : (bytes : List ℕ) (s t : Compilation) (c : Cutting) (rest piece more : List ℕ) → t ≡ with_cutter s c → piece ≡ rest → IsGoing bytes (with_cutter s c) (rest ++ more) → IsGoing bytes t (piece ++ more)
put_back bytes s t c rest piece more is same g =
    subst (λ (x : Compilation). IsGoing bytes x (piece ++ more)) (sym is)
    (subst (λ (l : List ℕ). IsGoing bytes (with_cutter s c) (l ++ more)) (sym same) g)

-- where no cutter is there, none of the piece is left
pub kept_none : (bytes piece more : List ℕ) (s t : Compilation) → s.cutter ≡ None → t ≡ record s { cutter = None } → piece ≡ [] → IsGoing bytes s (piece ++ more) → IsGoing bytes t more
kept_none bytes piece more s t none is out g =
    subst (λ (x : Compilation). IsGoing bytes x more) (sym is)
    (going_reading bytes (record s { cutter = None }) more refl (reading_of bytes s more none (subst (λ (l : List ℕ). IsGoing bytes s (l ++ more)) out g)))

-- an error that is known already
pub refused_more : (came piece : List ℕ) (r : Refusal) → IsRefusedFor came r → IsRefusedFor (came ++ piece) r
refused_more came piece r v rest = subst (λ (l : List ℕ). IsVerdictOf l (Rejected r)) (sym (append_assoc came piece rest)) (v (piece ++ rest))

pub refused_whole : (came : List ℕ) (r : Refusal) → IsRefusedFor came r → IsVerdictOf came (Rejected r)
refused_whole came r v = subst (λ (l : List ℕ). IsVerdictOf l (Rejected r)) (append-nil came) (v [])

-- ---- a module whose error is known, and one that is open

pub passed_over : (keeps : Bool) (came piece : List ℕ) (m : Member) (r : Refusal) → m ≡ member.Refused r → IsMember keeps came m → IsMember keeps (came ++ piece) m
passed_over keeps came piece m r is i = subst (IsMember keeps (came ++ piece)) (sym is) (refused_more came piece r (subst (IsMember keeps came) is i))

pub judged_already : (keeps : Bool) (came : List ℕ) (m : Member) (r : Refusal) → m ≡ member.Refused r → IsMember keeps came m → IsEnded keeps came m
judged_already keeps came m r is i = subst (IsEnded keeps came) (sym is) (refused_whole came r (subst (IsMember keeps came) is i))

pub open_so : (keeps : Bool) (came : List ℕ) (m : Member) (p : Part) → m ≡ member.Open p → IsMember keeps came m → IsFed came p × KeepsCodes keeps p.compilation
open_so keeps came m p is i = subst (IsMember keeps came) is i

pub fed_of : (keeps : Bool) (came : List ℕ) (m : Member) (p : Part) → m ≡ member.Open p → IsMember keeps came m → IsFed came p
fed_of keeps came m p is i = (subst (IsMember keeps came) is i).0

-- a module that has ended, by what it comes to
pub ended_judged : (keeps : Bool) (came : List ℕ) (m : Member) → IsJudged keeps came m → IsEnded keeps came m
ended_judged keeps came (member.Open p) j = absurd j
ended_judged keeps came (member.Image built) j = j
ended_judged keeps came (member.Valid c) j = j
ended_judged keeps came (member.Refused r) j = j

pub ended_open : (keeps : Bool) (came : List ℕ) (m : Member) (p : Part) → m ≡ member.Open p → IsEnded keeps came m → IsFed came p × KeepsCodes keeps p.compilation
ended_open keeps came m p is i = subst (IsEnded keeps came) is i

pub no_rows : (cells : Store) (m : Member) (rows : List (Option Row)) → rows ≡ [] → AreRowsOf cells rows m
no_rows cells m rows none = subst (λ (l : List (Option Row)). AreRowsOf cells l m) (sym none) (of m)
  where
    of : (m : Member) → AreRowsOf cells [] m
    of (member.Open p) = λ k d in'. absurd (omega arith)
    of (member.Image built) = tt
    of (member.Valid c) = tt
    of (member.Refused r) = tt
