-- The batch that is begun: its bodies close no batch.
use Rattle.std.proofs.Common.{◌≡◌, ℕ, inl, inr, leb, List, [], ◌∷◌, ◌++◌, refl, sym, ap, subst, ◌∙◌, arith}
use Rattle.std.proofs.lemmas.Bool.{cases_Bool, leb-false}
use Rattle.body_cutter.specs.Bodies.{Body, byte_count}
use Rattle.body_cutter.specs.Sections.{End, Whole, Faulty, Owed, Given, bodies_from}
use Rattle.body_cutter.specs.Places.{Place, still}
use Rattle.body_cutter.specs.Queues.{Queue, with_begun, with_body, with_bodies}
use Rattle.body_cutter.specs.Cuttings.{Cutting, Handed, finished, handed, left, no_batch}
use Rattle.module_stream.specs.Streaming.{AreOpen}

-- ---- more bodies leave it open, or close it

least_kept : (q : Queue) (bodies : List Body) → (with_begun q bodies).least ≡ q.least
least_kept q bodies = elim (cases_Bool (leb q.least (byte_count bodies))) [ inl e ↦ rw e refl | inr e ↦ rw e refl ]

begun_open : (least : ℕ) (q : Queue) (bodies : List Body) → q.least ≡ least → AreOpen least (with_begun q bodies).begun
begun_open least q bodies is = elim (cases_Bool (leb q.least (byte_count bodies))) [
  | inl e ↦ rw e (inl refl)
  | inr e ↦ let short = leb-false q.least (byte_count bodies) e in rw e (inr (omega (arith, short)))
]

with_open : (least : ℕ) (bodies : List Body) (q : Queue) → q.least ≡ least → AreOpen least q.begun → AreOpen least (with_bodies q bodies).begun
with_open least [] q is opens = opens
with_open least (b ∷ bodies) q is opens =
    with_open least bodies (with_body q b) (least_kept q (q.begun ++ b ∷ []) ∙ is) (begun_open least q (q.begun ++ b ∷ []) is)

finished_open : (least : ℕ) (e : End) (q : Queue) → AreOpen least q.begun → AreOpen least (finished e q).begun
finished_open least Whole q opens = inl refl
finished_open least (Faulty r) q opens = inl refl
finished_open least Owed q opens = opens

handed_open : (least : ℕ) (c : Cutting) (g : Given) (more : List ℕ) → left c more ≡ handed (no_batch least) g → AreOpen least (left c more).queue.begun
handed_open least c g more is =
    subst (λ (h : Handed). AreOpen least h.queue.begun) (sym is) (finished_open least g.ending (with_bodies (no_batch least) g.bodies) (with_open least g.bodies (no_batch least) refl (inl refl)))

-- of a cutter that has just begun
pub fresh_open : (c : Cutting) (index count at end least : ℕ) → ((rest : List ℕ) → left c rest ≡ handed (no_batch least) (bodies_from index count (record { at = at; rest = rest; end = end }))) → (more : List ℕ) → AreOpen least (left c more).queue.begun
fresh_open c index count at end least is more = handed_open least c (bodies_from index count (record { at = at; rest = more; end = end })) more (is more)

-- ---- the closed batches have no part in it

begun_same : (p q : Queue) (bodies : List Body) → p.least ≡ q.least → (with_begun p bodies).begun ≡ (with_begun q bodies).begun
begun_same p q bodies least = elim (cases_Bool (leb q.least (byte_count bodies))) [
  | inl e ↦ rw (least, e) refl
  | inr e ↦ rw (least, e) refl
]

with_same : (bodies : List Body) (p q : Queue) → p.least ≡ q.least → p.begun ≡ q.begun → (with_bodies p bodies).begun ≡ (with_bodies q bodies).begun
with_same [] p q least begun = begun
with_same (b ∷ bodies) p q least begun =
    with_same bodies (with_body p b) (with_body q b) (least_kept p (p.begun ++ b ∷ []) ∙ least ∙ sym (least_kept q (q.begun ++ b ∷ [])))
    (ap (λ (l : List Body). (with_begun p (l ++ b ∷ [])).begun) begun ∙ begun_same p q (q.begun ++ b ∷ []) least)

finished_same : (e : End) (p q : Queue) → p.begun ≡ q.begun → (finished e p).begun ≡ (finished e q).begun
finished_same Whole p q begun = refl
finished_same (Faulty r) p q begun = refl
finished_same Owed p q begun = begun

left_same : (old new : Cutting) (more : List ℕ) → new.place ≡ old.place → new.queue.least ≡ old.queue.least → new.queue.begun ≡ old.queue.begun → (left new more).queue.begun ≡ (left old more).queue.begun
unfolding left
left_same old new more place least begun =
    ap (λ (p : Place). (handed new.queue (still p more)).queue.begun) place
    ∙ finished_same (still old.place more).ending (with_bodies new.queue (still old.place more).bodies) (with_bodies old.queue (still old.place more).bodies)
    (with_same (still old.place more).bodies new.queue old.queue least begun)

-- closed batches were taken out or put in
pub left_open : (least : ℕ) (old new : Cutting) (more : List ℕ) → new.place ≡ old.place → new.queue.least ≡ old.queue.least → new.queue.begun ≡ old.queue.begun
    → AreOpen least (left old more).queue.begun → AreOpen least (left new more).queue.begun
left_open least old new more place same begun opens = subst (AreOpen least) (sym (left_same old new more place same begun)) opens
