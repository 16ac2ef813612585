-- The rest of the input, while the compilations of its modules are lent.
use Rattle.std.proofs.Common.{◌≡◌, ◌<◌, ℕ, Bool, true, false, List, ◌++◌, length, take, get_or, Option, Some, None, Result, Ok, Err, slice_get, refl, sym, ap, ◌∙◌, subst, arith}
use Rattle.std.specs.Prelude.{OnOk}
use Rattle.std.specs.Io.KnownBytes.{prepend_known, IsAtEnd}
use mathlib.Core.Logic.{dite}
use native.Mathlib.Decide.{ℕ_discrete}
use Rattle.std.proofs.Math.ListN.{set, length-set}
use Rattle.std.proofs.lemmas.Option.{slice_get_read, get_or_from_slice_get}
use Rattle.io_edges.specs.Causes.{Rose}
use Rattle.many_streams.specs.declared.flow.Flow.{Flow}
use Rattle.many_streams.specs.declared.member.Part.{Part}
use Rattle.many_streams.specs.declared.member.Member.{Member}
use Rattle.many_streams.specs.declared.member.Member.TheVariants as member
use Rattle.many_streams.specs.declared.rest.Rest.{Rest}
use Rattle.many_streams.specs.declared.reader.Taken.TheVariants as taken
use Rattle.many_streams.specs.declared.streams.Streams.{Streams}
use Rattle.many_streams.specs.declared.streams.ManyStop.{ManyStop}
use Rattle.many_streams.specs.declared.streams.ManyStop.TheVariants as stop
use Rattle.many_streams.specs.Reading.{Progress, Takes, Ends, SetsFlags, AreAllSet, with_more}
use Rattle.many_streams.specs.Flows.{part_with, member_with, members_with, IsLent, AreLent}
use Rattle.many_streams.specs.Many.{StandsSo, AreMembers, AreStreaming, TakesSomeSo, TakesAllSo, ComesToEnd, ComesToMany, IsFront}
use Rattle.many_streams.specs.Members.{IsFed, IsMember, IsEnded}
use Rattle.many_streams.specs.declared.working.Made.{Made}
use Rattle.many_streams.specs.Workers.{AreMade}
use Rattle.many_streams.specs.Rests.{IsRest, HaveCome, IsArriving, HasArrived, IsPaused, members_of}
use Rattle.batch_pool.proofs.Elements.{some_one, element_at, slice_set_same, slice_set_other}
use Rattle.many_streams.proofs.Crowds.{members_fed, members_ended, judged_end, front_stands}
use Rattle.many_streams.proofs.Flows.{length-with, with_at, with_set, set_same, member_ends, closed_passes, made_with}
use Rattle.many_streams.proofs.Sources.{took_more, ended, broken, failed, rest_is}

module _ (bytes : List ℕ) (keeps : Bool) (members : List Member) (r : Rest) (i : IsRest bytes keeps members r) where
  -- ---- the module at an index

  index_in : (k : ℕ) → k < r.reader.modules → k < length members
  index_in k in' = let c = i.streaming.count in let l = length-with members r.flows.items in omega arith

  pub flow_in : (k : ℕ) → k < r.reader.modules → k < length r.flows.items
  flow_in k in' = let c = i.count in let w = index_in k in' in omega arith

  module _ (k : ℕ) (in' : k < r.reader.modules) (o : Option Flow) (is : o ≡ get_or r.flows.items k o) where
    flow_at : slice_get r.flows.items k ≡ Some o
    flow_at = slice_get_read r.flows.items (length r.flows.items) k o refl (flow_in k in') is

    here : (m : Member) × (slice_get members k ≡ Some m)
    here = element_at members k (index_in k in')

    with_here : slice_get (members_with members r.flows.items) k ≡ Some (member_with here.0 o)
    with_here = with_at members r.flows.items k here.0 o here.1 flow_at

    -- it is as it was
    pub set_here : set r.flows.items k o ≡ r.flows.items
    set_here = set_same r.flows.items k o flow_at

    lent_here : IsLent here.0 o
    lent_here = i.lent k here.0 o here.1 flow_at

    with_in : k < length (members_with members r.flows.items)
    with_in = let l = length-with members r.flows.items in let w = index_in k in' in omega arith

    stands : (going : get_or r.reader.ended k false ≡ false) → IsMember keeps (i.streaming.of k) (member_with here.0 o)
    stands going = subst (λ (b : Bool). StandsSo b keeps (i.streaming.of k) (member_with here.0 o)) going (i.streaming.members k (member_with here.0 o) with_here)

    reads_as : member_with here.0 o ≡ get_or (members_with members r.flows.items) k (member_with here.0 o)
    reads_as = sym (get_or_from_slice_get (members_with members r.flows.items) k (member_with here.0 o) (member_with here.0 o) with_here)

    -- what was taken is of a module whose bodies are kept
    pub may_feed : (f : Flow) → o ≡ Some f → get_or r.reader.ended k false ≡ false → (came : List ℕ) × (p : Part) × IsFed came (part_with p f)
    may_feed f some going =
        let l = subst (IsLent here.0) some lent_here in
        let m = subst (λ (x : Option Flow). IsMember keeps (i.streaming.of k) (member_with here.0 x)) some (stands going) in
        (i.streaming.of k, l.0, (subst (λ (x : Member). IsMember keeps (i.streaming.of k) (member_with x (Some f))) l.1 m).0)

    module _ (piece : List ℕ) (n : ℕ) (r' : Rest) (q : Progress) (reader : r'.reader ≡ q) (t : Takes bytes i.streaming.of piece (Ok (taken.Bytes k n)) r.reader q) (sets : SetsFlags (Ok (taken.Bytes k n)) r.reader.ended q.ended) where
      streams_on : (members' : List Member) (m' : Member) → members' ≡ set (members_with members r.flows.items) k m' → (IsMember keeps (i.streaming.of k) (member_with here.0 o) → IsMember keeps (i.streaming.of k ++ take n piece) m') → AreStreaming (bytes ++ take n piece) keeps r'.reader members'
      streams_on members' m' now feeds = subst (λ (x : Progress). AreStreaming (bytes ++ take n piece) keeps x members') (sym reader) (record {
        of = with_more i.streaming.of k (take n piece);
        reading = t.0;
        count = ap length now ∙ (length-set (members_with members r.flows.items) k m' ∙ (i.streaming.count ∙ sym t.1));
        members = subst (λ (l : List Bool). AreMembers keeps l (with_more i.streaming.of k (take n piece)) members') (sym sets.1)
            (members_fed keeps r.reader.ended i.streaming.of (members_with members r.flows.items) members' k (member_with here.0 o) m' with_in sets.0 reads_as now i.streaming.members (take n piece) feeds);
      })

      same_modules : r'.reader.modules ≡ r.reader.modules
      same_modules = ap (λ (x : Progress). x.modules) reader ∙ t.1

      -- nothing is kept of it
      pub rest_passed : o ≡ None → r'.flows.items ≡ r.flows.items → TakesSomeSo (λ came. IsRest came keeps members r') bytes piece (Ok n)
      rest_passed none same = (
        record {
          count = ap length same ∙ i.count;
          some = let s = same_modules in let z = i.some in omega arith;
          lent = subst (AreLent members) (sym same) i.lent;
          streaming = streams_on (members_with members r'.flows.items) (member_with here.0 o)
              (ap (members_with members) same ∙ sym (set_same (members_with members r.flows.items) k (member_with here.0 o) with_here))
              (subst (λ (x : Option Flow). IsMember keeps (i.streaming.of k) (member_with here.0 x) → IsMember keeps (i.streaming.of k ++ take n piece) (member_with here.0 x)) (sym none)
              (closed_passes keeps (i.streaming.of k) (take n piece) here.0 (subst (IsLent here.0) none lent_here)));
        },
        t.3,
        t.4,
      )

      -- its bodies are kept
      pub rest_fed : (f f' : Flow) → o ≡ Some f → r'.flows.items ≡ set r.flows.items k (Some f') → ((came : List ℕ) (p : Part) → IsFed came (part_with p f) → IsFed (came ++ take n piece) (part_with p f'))
          → TakesSomeSo (λ came. IsRest came keeps members r') bytes piece (Ok n)
      rest_fed f f' some now feeds =
          let l = subst (IsLent here.0) some lent_here in (
            record {
              count = ap length now ∙ (length-set r.flows.items k (Some f') ∙ i.count);
              some = let s = same_modules in let z = i.some in omega arith;
              lent = λ j m x a b. lent_set j m x a (ap (λ (os : List (Option Flow)). slice_get os j) (sym now) ∙ b) l;
              streaming = streams_on (members_with members r'.flows.items) (member_with here.0 (Some f'))
                  (ap (members_with members) now ∙ with_set members r.flows.items k here.0 (Some f') here.1 (flow_in k in'))
                  (subst (λ (x : Option Flow). IsMember keeps (i.streaming.of k) (member_with here.0 x) → IsMember keeps (i.streaming.of k ++ take n piece) (member_with here.0 (Some f'))) (sym some)
                  (subst (λ (m : Member). IsMember keeps (i.streaming.of k) (member_with m (Some f)) → IsMember keeps (i.streaming.of k ++ take n piece) (member_with m (Some f'))) (sym l.1)
                  (λ old. (feeds (i.streaming.of k) l.0 old.0, old.1))));
            },
            t.3,
            t.4,
          )
        where
          lent_set : (j : ℕ) (m : Member) (x : Option Flow) → slice_get members j ≡ Some m → slice_get (set r.flows.items k (Some f')) j ≡ Some x → (p : Part) × (here.0 ≡ member.Open p) → IsLent m x
          lent_set j m x a b l = dite (ℕ_discrete j k)
              (λ same.
              let e : here.0 ≡ m = some_one members k here.0 m here.1 (subst (λ (h : ℕ). slice_get members h ≡ Some m) same a) in
              let g : Some f' ≡ x = some_one (set r.flows.items k (Some f')) k (Some f') x (slice_set_same r.flows.items k (Some f') (flow_in k in')) (subst (λ (h : ℕ). slice_get (set r.flows.items k (Some f')) h ≡ Some x) same b) in
              subst (λ (z : Member × Option Flow). IsLent z.0 z.1) (λ h. (e h, g h)) l)
              (λ other. i.lent j m x a (sym (slice_set_other r.flows.items j k (Some f') other) ∙ b))

  -- ---- a number

  module _ (piece : List ℕ) (r' : Rest) (q : Progress) (now : r' ≡ record r { reader = q }) (some : 0 < length piece) where
    pub rest_number : Takes bytes i.streaming.of piece (Ok taken.Number) r.reader q → SetsFlags (Ok taken.Number) r.reader.ended q.ended → TakesSomeSo (λ came. IsRest came keeps members r') bytes piece (Ok 1)
    rest_number t flags = (
      subst (IsRest (bytes ++ take 1 piece) keeps members) (sym now) (record {
        count = i.count;
        some = let e = t.1 in let z = i.some in omega arith;
        lent = i.lent;
        streaming = record {
          of = i.streaming.of;
          reading = t.0;
          count = i.streaming.count ∙ sym t.1;
          members = subst (λ (l : List Bool). AreMembers keeps l i.streaming.of (members_with members r.flows.items)) (sym flags) i.streaming.members;
        };
      }),
      omega arith,
      omega arith,
    )

    pub rest_ended : (k : ℕ) → Takes bytes i.streaming.of piece (Ok (taken.End k)) r.reader q → SetsFlags (Ok (taken.End k)) r.reader.ended q.ended → TakesSomeSo (λ came. IsRest came keeps members r') bytes piece (Ok 1)
    rest_ended k t sets =
        let all = members_with members r.flows.items in
        let l = length-with members r.flows.items in
        let c = i.streaming.count in
        let below = t.2 in
        let m = element_at all k (omega arith) in (
          subst (IsRest (bytes ++ take 1 piece) keeps members) (sym now) (record {
            count = i.count;
            some = let e = t.1 in let z = i.some in omega arith;
            lent = i.lent;
            streaming = record {
              of = i.streaming.of;
              reading = t.0;
              count = i.streaming.count ∙ sym t.1;
              members = subst (λ (x : List Bool). AreMembers keeps x i.streaming.of all) (sym sets.2)
                  (members_ended keeps r.reader.ended i.streaming.of all all k m.0 m.0 (omega arith) sets.0 (sym (get_or_from_slice_get all k m.0 m.0 m.1)) (sym (set_same all k m.0 m.1)) i.streaming.members sets.1
                  (member_ends keeps (i.streaming.of k) m.0));
            };
          }),
          omega arith,
          omega arith,
        )

    -- the number of modules came before
    pub never_counted : Takes bytes i.streaming.of piece (Ok taken.Count) r.reader q → ⊥
    never_counted t = let z = i.some in let n = t.2 in absurd (omega arith)

  -- ---- the end

  pub rest_judged : Ends bytes i.streaming.of (Ok tt) r.reader → AreAllSet r.reader.modules r.reader.ended → ComesToEnd (IsEnded keeps) bytes (members_of members r (Ok tt))
  rest_judged ends set = judged_end bytes keeps r.reader (members_with members r.flows.items) i.streaming ends set

  pub rest_front : (x : Result (Unit {0}) ℕ) → Ends bytes i.streaming.of x r.reader → IsFront bytes
  rest_front x ends = front_stands bytes keeps r.reader (members_with members r.flows.items) x i.streaming ends

-- ---- a source

pub come_on : (bytes more : List ℕ) (first : Option (List ℕ)) (before : ℕ) (left last : Option (List ℕ)) (now then : ℕ) (may_read may_read' : Bool) → HaveCome bytes first before left now may_read
    → left ≡ prepend_known more last → then ≡ now → may_read' ≡ true → HaveCome (bytes ++ more) first before last then may_read'
come_on bytes more first before left last now then may_read may_read' h took same on = record {
  took = took_more first left last bytes more h.took took;
  few = h.few;
  same = same ∙ h.same;
  open_now = on;
}

module _ (first : Option (List ℕ)) (before : ℕ) (left last : Option (List ℕ)) (now then : ℕ) (may_read : Bool) (keeps : Bool) (members : List Member) (r : Rest) (a : IsArriving first before left now may_read keeps members r) where
  -- bytes came
  pub arrives_on : (r' : Rest) (may_read' : Bool) (more : List ℕ) → left ≡ prepend_known more last → then ≡ now → may_read' ≡ true → ((bytes : List ℕ) → IsRest bytes keeps members r → IsRest (bytes ++ more) keeps members r') → IsArriving first before last then may_read' keeps members r'
  arrives_on r' may_read' more took same on takes = (a.0 ++ more, come_on a.0 more first before left last now then may_read may_read' a.1 took same on, takes a.0 a.2)

  -- no more bytes come
  pub arrived_end : (x : Result (Unit {0}) ManyStop) → then ≡ now → last ≡ left → IsAtEnd left → ((bytes : List ℕ) → IsRest bytes keeps members r → ComesToEnd (IsEnded keeps) bytes (members_of members r x)) → HasArrived first before last then keeps members x r
  arrived_end x same is end ends = record {
    count = count_of x;
    comes = ended (IsEnded keeps) before then first last a.0 (members_of members r x) (same ∙ a.1.same) (rest_is a.0 first left last a.1.took is) (subst IsAtEnd (sym is) end) (ends a.0 a.2);
  }
    where
      count_of : (x : Result (Unit {0}) ManyStop) → OnOk x (length r.flows.items ≡ length members)
      count_of (Ok u) = a.2.count
      count_of (Err e) = tt

  -- bytes that are no frames came, or memory ran out
  pub arrived_err : (r' : Rest) (more : List ℕ) (e : ManyStop) → left ≡ prepend_known more last → then ≡ now → ((bytes : List ℕ) → IsRest bytes keeps members r → TakesAllSo (λ came. IsRest came keeps members r') bytes more (Err e)) → HasArrived first before last then keeps members (Err e) r'
  arrived_err r' more e took same takes = record {
    count = tt;
    comes = broken (IsEnded keeps) (λ came. IsRest came keeps members r') before then first last a.0 more e (same ∙ a.1.same) (took_more first left last a.0 more a.1.took took) (takes a.0 a.2);
  }

  -- the source failed
  pub arrived_fail : (e : ManyStop) → Rose now then → last ≡ left → ((bytes : List ℕ) → IsRest bytes keeps members r → IsFront bytes) → e ≡ stop.ReadFault → HasArrived first before last then keeps members (Err e) r
  arrived_fail e rose is front fault = record {
    count = tt;
    comes = failed (IsEnded keeps) before then now first last a.0 e a.1.few a.1.same rose (rest_is a.0 first left last a.1.took is) (front a.0 a.2) fault;
  }

-- the modules are lent where the reading pauses
pub paused_rest : (first : Option (List ℕ)) (before : ℕ) (left : Option (List ℕ)) (now : ℕ) (may_read : Bool) (s : Streams) (members : List Member) (r : Rest) → IsPaused first before left now may_read s → r.reader ≡ s.reader → length r.flows.items ≡ length members
    → AreLent members r.flows.items → members_with members r.flows.items ≡ s.members.items → IsArriving first before left now may_read s.keeps members r
paused_rest first before left now may_read s members r p reader count lent whole = (
  p.bytes,
  p.come,
  record {
    count = count;
    some = subst (λ (x : Progress). 0 < x.modules) (sym reader) p.some;
    lent = lent;
    streaming = subst (λ (x : Progress × List Member). AreStreaming p.bytes s.keeps x.0 x.1) (λ i. (sym reader i, sym whole i)) p.streaming;
  },
)

-- the slice of them that is lent
pub paused_lent : (first : Option (List ℕ)) (before : ℕ) (left : Option (List ℕ)) (now : ℕ) (may_read : Bool) (s : Streams) (members slice : List Member) (r : Rest) → slice ≡ members → IsPaused first before left now may_read s → r.reader ≡ s.reader
    → length r.flows.items ≡ length members → AreLent members r.flows.items → members_with members r.flows.items ≡ s.members.items → IsArriving first before left now may_read s.keeps slice r
paused_lent first before left now may_read s members slice r same p reader count lent whole =
    subst (λ (ms : List Member). IsArriving first before left now may_read s.keeps ms r) (sym same) (paused_rest first before left now may_read s members r p reader count lent whole)

-- ---- the modules are put together again

pub together : (keeps failed : Bool) (first left : Option (List ℕ)) (members slice put : List Member) (flows : List (Option Flow)) → slice ≡ members → put ≡ members_with members flows → ComesToMany (IsEnded keeps) failed first left (Ok (members_with slice flows))
    → ComesToMany (IsEnded keeps) failed first left (Ok put)
together keeps failed first left members slice put flows same is = subst (λ (ms : List Member). ComesToMany (IsEnded keeps) failed first left (Ok ms)) (ap (λ (ms : List Member). members_with ms flows) same ∙ sym is)

pub together_made : (members slice put : List Member) (flows : List (Option Flow)) (made : List Made) → slice ≡ members → put ≡ members_with members flows → length flows ≡ length slice → AreMade slice made → AreMade put made
together_made members slice put flows made same is count are =
    subst (λ (ms : List Member). AreMade ms made) (sym is) (made_with members flows made (count ∙ ap length same) (subst (λ (ms : List Member). AreMade ms made) same are))
