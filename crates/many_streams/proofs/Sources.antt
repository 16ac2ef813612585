-- Frames that come from a source.
use Rattle.std.proofs.Common.{◌≡◌, inl, inr, ◌≤◌, ◌<◌, ◌-◌, ◌^◌, ℕ, Bool, false, List, [], ◌++◌, length, Option, Result, Ok, Err, sym, ap, ◌∙◌, subst, arith, length-append}
use Rattle.std.specs.Prelude.{nat_lt}
use Rattle.std.specs.Io.KnownBytes.{prepend_known, IsAtEnd}
use Rattle.std.proofs.lemmas.Bool.{lt-ltb, le-ltb}
use Rattle.io_edges.specs.Causes.{Rose}
use Rattle.io_edges.specs.Streams.{TookFront}
use Rattle.io_edges.proofs.Known.{prepend_more, prepend_nothing}
use Rattle.many_streams.specs.declared.member.Member.{Member}
use Rattle.many_streams.specs.declared.streams.ManyStop.{ManyStop}
use Rattle.many_streams.specs.declared.streams.ManyStop.TheVariants as stop
use Rattle.many_streams.specs.declared.limits.TheConstants.{MAX_INPUT}
use Rattle.many_streams.specs.Reading.{Progress}
use Rattle.many_streams.specs.Many.{AreEach, AreStreaming, TakesAllSo, ComesToEnd, ComesToMany, IsFront}

pub took_more : (first left last : Option (List ℕ)) (bytes more : List ℕ) → first ≡ prepend_known bytes left → left ≡ prepend_known more last → first ≡ prepend_known (bytes ++ more) last
took_more first left last bytes more a b = a ∙ (ap (prepend_known bytes) b ∙ prepend_more last bytes more)

-- nothing was read
pub took_nothing : (left : Option (List ℕ)) (count : ℕ) → TookFront left count left count
took_nothing left count = record { came = []; took = sym (prepend_nothing left); counts = omega arith }

pub took_none : (left last : Option (List ℕ)) (before now : ℕ) → last ≡ left → before ≤ now → TookFront left before last now
took_none left last before now same counts = record { came = []; took = sym (prepend_nothing left) ∙ ap (prepend_known []) (sym same); counts = counts }

-- what two calls took, one after the other
pub took_both : (first left last : Option (List ℕ)) (before now then : ℕ) → TookFront first before left now → TookFront left now last then → TookFront first before last then
took_both first left last before now then one two = record {
  came = one.came ++ two.came;
  took = took_more first left last one.came two.came one.took two.took;
  counts = omega (arith, one.counts, two.counts);
}

-- bytes that were taken move the reader on
pub moves_on : (bytes more : List ℕ) (keeps keeps' : Bool) (p p' : Progress) (ms ms' : List Member) → AreStreaming bytes keeps p ms → AreStreaming (bytes ++ more) keeps' p' ms' → 0 < length more → MAX_INPUT - p'.at < MAX_INPUT - p.at
moves_on bytes more keeps keeps' p p' ms ms' i j some =
    let r = i.reading in
    let q = j.reading in
    let a = r.at in
    let b = q.at in
    let few = q.few in
    let l = length-append bytes more in omega arith

pub took : (first left : Option (List ℕ)) (bytes : List ℕ) (before now : ℕ) → first ≡ prepend_known bytes left → before ≤ now → TookFront first before left now
took first left bytes before now is counts = record { came = bytes; took = is; counts = counts }

calm : (before now : ℕ) → now ≡ before → nat_lt before now ≡ false
calm before now same = le-ltb before now (omega (arith, same))

module _ {E : Type 0} (Comes : List ℕ → E → Type 0) where
  pub ended : (before now : ℕ) (first rest : Option (List ℕ)) (bytes : List ℕ) (r : Result (List E) ManyStop) → now ≡ before → first ≡ prepend_known bytes rest → IsAtEnd rest → ComesToEnd Comes bytes r → ComesToMany Comes (nat_lt before now) first rest r
  ended before now first rest bytes (Ok each) same is end a = (calm before now same, bytes, is, end, a.0, a.1, a.2)
  ended before now first rest bytes (Err (stop.Frame at)) same is end a = (calm before now same, bytes, is, inr (end, a.0, a.1))
  ended before now first rest bytes (Err stop.ReadFault) same is end a = absurd a
  ended before now first rest bytes (Err stop.NoMemory) same is end a = tt

  pub broken : (Came : List ℕ → Type 0) (before now : ℕ) (first rest : Option (List ℕ)) (bytes more : List ℕ) (e : ManyStop) → now ≡ before → first ≡ prepend_known (bytes ++ more) rest → TakesAllSo Came bytes more (Err e) → ComesToMany Comes (nat_lt before now) first rest (Err e)
  broken Came before now first rest bytes more (stop.Frame at) same is bad = (calm before now same, bytes ++ more, is, inl bad)
  broken Came before now first rest bytes more stop.ReadFault same is bad = absurd bad
  broken Came before now first rest bytes more stop.NoMemory same is bad = tt

  pub failed : (before now was : ℕ) (first rest : Option (List ℕ)) (bytes : List ℕ) (e : ManyStop) → before < 2 ^ 64 - 1 → was ≡ before → Rose was now → first ≡ prepend_known bytes rest → IsFront bytes → e ≡ stop.ReadFault → ComesToMany Comes (nat_lt before now) first rest (Err e)
  failed before now was first rest bytes e few same rose is front fault =
      subst (λ (x : ManyStop). ComesToMany Comes (nat_lt before now) first rest (Err x)) (sym fault) (lt-ltb before now (omega (arith, same)), bytes, is, front)

pub rest_is : (bytes : List ℕ) (first left rest : Option (List ℕ)) → first ≡ prepend_known bytes left → rest ≡ left → first ≡ prepend_known bytes rest
rest_is bytes first left rest is same = is ∙ ap (prepend_known bytes) (sym same)

-- what each module comes to is said otherwise
pub comes_on : {E F : Type 0} (Comes : List ℕ → E → Type 0) (Becomes : List ℕ → F → Type 0) (failed : Bool) (left rest : Option (List ℕ)) (es : List E) (fs : List F) → ComesToMany Comes failed left rest (Ok es)
    → ((list : List (List ℕ)) → AreEach Comes list es → AreEach Becomes list fs) → ComesToMany Becomes failed left rest (Ok fs)
comes_on Comes Becomes failed left rest es fs c of = (c.0, c.1, c.2, c.3, c.4, c.5, of c.4 c.6)

pub stops_on : {E F : Type 0} (Comes : List ℕ → E → Type 0) (Becomes : List ℕ → F → Type 0) (failed : Bool) (left rest : Option (List ℕ)) (e : ManyStop) → ComesToMany Comes failed left rest (Err e) → ComesToMany Becomes failed left rest (Err e)
stops_on Comes Becomes failed left rest (stop.Frame at) c = c
stops_on Comes Becomes failed left rest stop.ReadFault c = c
stops_on Comes Becomes failed left rest stop.NoMemory c = tt
