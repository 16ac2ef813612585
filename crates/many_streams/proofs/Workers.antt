-- What workers make of the bodies of modules.
use Rattle.std.proofs.Common.{◌≡◌, ◌⊎◌, inl, inr, ◌<◌, ◌+◌, ◌^◌, ℕ, List, [], ◌∷◌, ◌++◌, length, All, Some, None, slice_get, refl, sym, ap, ◌∙◌, subst, arith, length-append}
use mathlib.Core.Logic.{dite}
use native.Mathlib.Decide.{ℕ_discrete}
use Rattle.std.proofs.Math.ListN.{set, length-set}
use Rattle.std.proofs.lemmas.Option.{slice_get_within, get_or_from_slice_get}
use Rattle.body_compiler.specs.BatchRows.{IsRowIf}
use Rattle.batch_pool.specs.declared.lanes.lane.Lane.{Lane}
use Rattle.batch_pool.specs.declared.lanes.lane.LaneDesk.{LaneDesk}
use Rattle.batch_pool.specs.Lanes.{AreApart, AreDesks, Each, HasReadIn, HaveNoRows, HaveParts}
use Rattle.batch_pool.proofs.Elements.{some_one, element_at, slice_set_same, slice_set_other, slice_front, slice_next, slice_push}
use Rattle.many_streams.specs.declared.member.Part.{Part}
use Rattle.many_streams.specs.declared.member.Member.{Member}
use Rattle.many_streams.specs.declared.member.Member.TheVariants as member
use Rattle.many_streams.specs.declared.working.Made.{Made}
use Rattle.many_streams.specs.Members.{AreRowsOf}
use Rattle.many_streams.specs.Workers.{IsLaneOf, IsRead, AreRead, IsNewDesk, AreOpened, AreMade}
use Rattle.many_streams.proofs.Feeding.{no_rows}

-- ---- lists

none_at : {X : Type 0} (xs : List X) (k : ℕ) (x : X) → xs ≡ [] → slice_get xs k ≡ Some x → ⊥
none_at xs k x none at = absurd (let e : slice_get xs k ≡ None = ap (λ (l : List _). slice_get l k) none in cc)

-- elements at the front of a list
abbrev pub IsFrontOf : {X : Type 0} → List X → List X → Type 0
IsFrontOf {X} front all = (i : ℕ) (x : X) → slice_get front i ≡ Some x → slice_get all i ≡ Some x

front_less : {X : Type 0} (front front' all : List X) (x : X) → front ≡ front' ++ x ∷ [] → IsFrontOf front all → IsFrontOf front' all
front_less front front' all x last is i y at = is i y (ap (λ (l : List _). slice_get l i) last ∙ slice_front front' (x ∷ []) y i at)

front_last : {X : Type 0} (front front' all : List X) (x : X) (k : ℕ) → k ≡ length front' → front ≡ front' ++ x ∷ [] → IsFrontOf front all → slice_get all k ≡ Some x
front_last front front' all x k same last is = is k x (ap (λ (l : List _). slice_get l k) last ∙ (ap (λ (j : ℕ). slice_get (front' ++ x ∷ []) j) same ∙ slice_next front' [] x))

-- ---- lanes and their desks

pub opened_none : (workers : ℕ) (members : List Member) (lanes : List Lane) (desks : List LaneDesk) → lanes ≡ [] → desks ≡ [] → AreOpened workers members 0 lanes desks
opened_none workers members lanes desks no_lanes no_desks = record {
  desks_count = ap length no_desks ∙ sym (ap length no_lanes);
  of = λ k l at. absurd (none_at lanes k l no_lanes at);
  desks_are = λ k l d at b. absurd (none_at lanes k l no_lanes at);
  below = λ k l at. absurd (none_at lanes k l no_lanes at);
  apart = λ j k l m at. absurd (none_at lanes j l no_lanes at);
}

pub opened_later : (workers : ℕ) (members : List Member) (n : ℕ) (lanes : List Lane) (desks : List LaneDesk) → AreOpened workers members n lanes desks → AreOpened workers members (n + 1) lanes desks
opened_later workers members n lanes desks o = record { desks_count = o.desks_count; of = o.of; desks_are = o.desks_are; below = λ k l at. let b = o.below k l at in omega arith; apart = o.apart }

module _ (workers : ℕ) (members : List Member) (n : ℕ) (lanes lanes' : List Lane) (desks desks' : List LaneDesk) (l : Lane) (d : LaneDesk)
    (o : AreOpened workers members n lanes desks) (more : lanes' ≡ lanes ++ l ∷ []) (more_desks : desks' ≡ desks ++ d ∷ [])
    (number : l.module ≡ n) (is : IsLaneOf members l) (new : IsNewDesk workers l d) where
  lane_in : (k : ℕ) (m : Lane) → slice_get lanes' k ≡ Some m → (slice_get lanes k ≡ Some m) ⊎ ((k ≡ length lanes) × (l ≡ m))
  lane_in k m at = slice_push lanes l m k (ap (λ (x : List Lane). slice_get x k) (sym more) ∙ at)

  -- what holds of the lanes before and of the new one
  holds : (P : Lane → Type 0) → ((k : ℕ) (m : Lane) → slice_get lanes k ≡ Some m → P m) → P l → (k : ℕ) (m : Lane) → slice_get lanes' k ≡ Some m → P m
  holds P before here k m at = of (lane_in k m at)
    where
      of : (slice_get lanes k ≡ Some m) ⊎ ((k ≡ length lanes) × (l ≡ m)) → P m
      of (inl h) = before k m h
      of (inr h) = subst P h.1 here

  all_desks : (k : ℕ) (m : Lane) (e : LaneDesk) → slice_get lanes' k ≡ Some m → slice_get desks' k ≡ Some e → IsNewDesk workers m e
  all_desks k m e a b = of (lane_in k m a) (slice_push desks d e k (ap (λ (x : List LaneDesk). slice_get x k) (sym more_desks) ∙ b))
    where
      of : (slice_get lanes k ≡ Some m) ⊎ ((k ≡ length lanes) × (l ≡ m)) → (slice_get desks k ≡ Some e) ⊎ ((k ≡ length desks) × (d ≡ e)) → IsNewDesk workers m e
      of (inl x) (inl y) = o.desks_are k m e x y
      of (inl x) (inr y) = let w = slice_get_within lanes k m x in let c = o.desks_count in let q = y.0 in absurd (omega arith)
      of (inr x) (inl y) = let w = slice_get_within desks k e y in let c = o.desks_count in let q = x.0 in absurd (omega arith)
      of (inr x) (inr y) = subst (λ (q : Lane × LaneDesk). IsNewDesk workers q.0 q.1) (λ i. (x.1 i, y.1 i)) new

  apart_all : AreApart lanes'
  apart_all j k a b at bt same = of (lane_in j a at) (lane_in k b bt)
    where
      of : (slice_get lanes j ≡ Some a) ⊎ ((j ≡ length lanes) × (l ≡ a)) → (slice_get lanes k ≡ Some b) ⊎ ((k ≡ length lanes) × (l ≡ b)) → j ≡ k
      of (inl x) (inl y) = o.apart j k a b x y same
      of (inl x) (inr y) = let w = o.below j a x in let e = ap (λ (z : Lane). z.module) y.1 in absurd (omega arith)
      of (inr x) (inl y) = let w = o.below k b y in let e = ap (λ (z : Lane). z.module) x.1 in absurd (omega arith)
      of (inr x) (inr y) = x.0 ∙ sym y.0

  pub opened_push : AreOpened workers members (n + 1) lanes' desks'
  opened_push = record {
    desks_count = let c = o.desks_count in let a = ap length more in let b = ap length more_desks in omega (arith, length-append lanes (l ∷ []), length-append desks (d ∷ []));
    of = holds (IsLaneOf members) o.of is;
    desks_are = all_desks;
    below = holds (λ m. m.module < n + 1) (λ k m at. let b = o.below k m at in omega arith) (omega arith);
    apart = apart_all;
  }

pub lane_of_part : (members : List Member) (l : Lane) (m : Member) (p : Part) (n : ℕ) → l.module ≡ n → slice_get members n ≡ Some m → m ≡ member.Open p → l.context.now ≡ p.compilation.spaces → IsLaneOf members l
lane_of_part members l m p n number at open' context = (p, ap (λ (k : ℕ). slice_get members k) number ∙ (at ∙ ap Some open'), context)

module _ (workers : ℕ) (members : List Member) (n : ℕ) (lanes : List Lane) (desks : List LaneDesk) (o : AreOpened workers members n lanes desks) where
  pub opened_desks : AreDesks lanes desks
  opened_desks = record { count = o.desks_count; each = λ k l d lane desk. (o.desks_are k l d lane desk).of }

  -- the lane of a desk
  new_desk : (k : ℕ) (d : LaneDesk) → slice_get desks k ≡ Some d → (l : Lane) × IsNewDesk workers l d
  new_desk k d desk =
      let w = slice_get_within desks k d desk in
      let c = o.desks_count in
      let l = element_at lanes k (omega arith) in (l.0, o.desks_are k l.0 d l.1 desk)

  pub opened_rows : HaveNoRows desks
  opened_rows k d desk = (new_desk k d desk).1.rows

  pub opened_parts : (hands : ℕ) → hands ≡ workers → workers < 2 ^ 32 → HaveParts hands desks
  opened_parts hands same small k d desk = let p = (new_desk k d desk).1.parts in (omega arith, omega arith)

  -- what there is once the workers are joined
  pub read_after : (desks' : List LaneDesk) → AreDesks lanes desks' → Each HasReadIn lanes desks desks' → AreRead members lanes desks'
  read_after desks' are each = record {
    count = are.count;
    of = o.of;
    read = λ k l e lane desk.
        let w = slice_get_within lanes k l lane in
        let c = o.desks_count in
        let d = element_at desks k (omega arith) in
        let new = o.desks_are k l d.0 lane d.1 in
        let h = each k l d.0 e lane d.1 desk in
        record { table = h.table; feeder = h.feeder; running = h.running; parts = h.all ∙ (new.parts ∙ sym new.all); kept = h.tickets; right = h.right };
  }

-- ---- what was made

pub made_none : (members : List Member) (made : List Made) → length made ≡ length members → All (λ x. x.rows.items ≡ []) made → AreMade members made
made_none members made count none = (count, λ k m x at in'. no_rows x.cells m x.rows.items (at_all made k x none in'))
  where
    at_all : (xs : List Made) (k : ℕ) (x : Made) → All (λ y. y.rows.items ≡ []) xs → slice_get xs k ≡ Some x → x.rows.items ≡ []
    at_all xs k x all at = subst (λ (y : Made). y.rows.items ≡ []) (get_or_from_slice_get xs k x x at) (all k x (slice_get_within xs k x at))

pub made_set : (members : List Member) (made : List Made) (l : Lane) (x : Made) → AreMade members made → IsLaneOf members l → All (IsRowIf l.context.now x.cells) x.rows.items → AreMade members (set made l.module x)
made_set members made l x are is right = (
  length-set made l.module x ∙ are.0,
  λ k m y at in'. dite (ℕ_discrete k l.module)
      (λ same.
      let e : m ≡ member.Open is.0 = some_one members k m (member.Open is.0) at (ap (λ (j : ℕ). slice_get members j) same ∙ is.1) in
      let w = slice_get_within members l.module (member.Open is.0) is.1 in
      let c = are.0 in
      let f : x ≡ y = some_one (set made l.module x) k x y (ap (λ (j : ℕ). slice_get (set made l.module x) j) same ∙ slice_set_same made l.module x (omega arith)) in' in
      subst (λ (q : Made × Member). AreRowsOf q.0.cells q.0.rows.items q.1) (λ i. (f i, sym e i)) (subst (λ (s : _). All (IsRowIf s x.cells) x.rows.items) is.2 right))
      (λ other. are.1 k m y at (sym (slice_set_other made k l.module x other) ∙ in')),
)

-- some lanes are still to be settled
pub record HasSettled (members : List Member) (lanes0 lanes : List Lane) (desks0 desks : List LaneDesk) (made : List Made) : Type 0 where
  pub lanes_are : IsFrontOf lanes lanes0
  pub desks_are : IsFrontOf desks desks0
  pub count : length desks ≡ length lanes
  pub made_so : AreMade members made

pub settled_begins : (members : List Member) (lanes : List Lane) (desks : List LaneDesk) (made : List Made) → AreRead members lanes desks → AreMade members made → HasSettled members lanes lanes desks desks made
settled_begins members lanes desks made f m = record { lanes_are = λ i x at. at; desks_are = λ i x at. at; count = f.count; made_so = m }

module _ (members : List Member) (lanes0 lanes lanes' : List Lane) (desks0 desks desks' : List LaneDesk) (made : List Made) (l : Lane) (d : LaneDesk)
    (f : AreRead members lanes0 desks0) (h : HasSettled members lanes0 lanes desks0 desks made) (last : lanes ≡ lanes' ++ l ∷ []) (last_desk : desks ≡ desks' ++ d ∷ []) where
  same_count : length desks' ≡ length lanes'
  same_count = let c = h.count in let a = ap length last in let b = ap length last_desk in omega (arith, length-append lanes' (l ∷ []), length-append desks' (d ∷ []))

  pub next_of : IsLaneOf members l
  next_of = f.of (length lanes') l (front_last lanes lanes' lanes0 l (length lanes') refl last h.lanes_are)

  pub next_read : IsRead l d
  next_read = f.read (length lanes') l d (front_last lanes lanes' lanes0 l (length lanes') refl last h.lanes_are) (front_last desks desks' desks0 d (length lanes') (sym same_count) last_desk h.desks_are)

  pub next_in : l.module < length made
  next_in = let o = next_of in let w = slice_get_within members l.module (member.Open o.0) o.1 in let c = h.made_so.0 in omega arith

  pub settled_steps : (made' : List Made) (x : Made) → All (IsRowIf l.context.now x.cells) x.rows.items → made' ≡ set made l.module x → HasSettled members lanes0 lanes' desks0 desks' made'
  settled_steps made' x right now = record {
    lanes_are = front_less lanes lanes' lanes0 l last h.lanes_are;
    desks_are = front_less desks desks' desks0 d last_desk h.desks_are;
    count = same_count;
    made_so = subst (AreMade members) (sym now) (made_set members made l x h.made_so next_of right);
  }
