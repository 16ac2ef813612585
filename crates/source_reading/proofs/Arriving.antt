-- Bytes that arrive, chunk by chunk, and what they settle.
use Rattle.std.proofs.Common.{◌≡◌, ◌≤◌, ◌<◌, ◌+◌, ◌-◌, ◌^◌, ℕ, zero, suc, ltb, Bool, true, List, [], ◌++◌, length, take, drop, Option, Some, None, Result, Err, All, refl, sym, ap, subst, ◌∙◌, arith, length-append}
use Rattle.std.specs.Prelude.{false, IsSome, IfSome}
use Rattle.std.specs.Io.KnownBytes.{prepend_known, IsAtEnd}
use Rattle.std.proofs.lemmas.List.{append-nil, length-take, take-take}
use Rattle.std.proofs.lemmas.List.Elements.{All-append, All-take}
use Rattle.wasm_defs.specs.declared.front_stop.FrontStop.{FrontStop}
use Rattle.io_edges.specs.Causes.{Rose}
use Rattle.source_reading.specs.declared.chunk.ReadStatus.{ReadStatus}
use Rattle.source_reading.specs.declared.chunk.ReadStatus.TheVariants.{Bytes, Full, End, Failed}
use Rattle.module_stream.specs.Limits.{max_read}
use Rattle.module_stream.specs.declared.compilation.Compilation.{Compilation}
use Rattle.source_reading.specs.Arriving.{StandsAt, IsArriving, has_failed}
use Rattle.source_reading.specs.Received.{IsRead}
use Rattle.source_reading.specs.Chunks.{Chunked}
use Rattle.module_stream.specs.ValidPrefixes.{closing_bytes}
use Rattle.module_stream.specs.Done.{Decides}
use Rattle.source_reading.specs.Reading.{Settled}
use Rattle.module_stream.specs.Streaming.{IsGoing, IsErrorFree, IsUnread, AllWait, ClosedAreValid, GoesOn, MayGo, MayEnd}
use Rattle.source_reading.proofs.Pumping.{came_more, going_piece, going_all, early, at_end, at_fault, at_limit}
use Rattle.module_stream.proofs.NoErrors.{none_read}
use Rattle.module_stream.proofs.ValidPrefixes.{valid_prefix}
use Rattle.module_stream.proofs.Streaming.{going_decides}

none_prepended : (o : Option (List ℕ)) → o ≡ prepend_known [] o
none_prepended None = refl
none_prepended (Some l) = refl

-- where no batch waits
pub closed_valid : (closing : Option ℕ) (s : Compilation) (up : Bool) → (IsSome closing → up ≡ false) → (up ≡ false → AllWait s.cutter) → IfSome closing (λ least. s.batch ≡ least) → ClosedAreValid closing s
closed_valid None s up whole waits batch = tt
closed_valid (Some least) s up whole waits batch = (batch, waits (whole refl))

-- by how many workers there are: with none the batch is so, and the reading doesn't stop at the bodies
pub closing_is : (workers batch : ℕ) → IfSome (closing_bytes workers batch) (λ least. batch ≡ least)
closing_is zero batch = refl
closing_is (suc workers) batch = tt

pub closing_whole : (workers batch : ℕ) → IsSome (closing_bytes workers batch) → ltb 0 workers ≡ false
closing_whole zero batch some = refl
closing_whole (suc workers) batch some = absurd cc

-- where none is given
pub none_given : (P : Type 0) → IsSome {T = ℕ} None → P
none_given P some = absurd cc

-- with some, bodies may wait
pub settled_beside : (workers batch : ℕ) (failed : Bool) (r : Result (Unit {0}) FrontStop) (s : Compilation) (left rest : Option (List ℕ)) (before now : ℕ) → (ltb 0 workers ≡ false → false ≡ true) → Settled None failed r s left rest before now
    → Settled (closing_bytes workers batch) failed r s left rest before now
settled_beside zero batch failed r s left rest before now some h = let t : false ≡ true = some refl in absurd cc
settled_beside (suc workers) batch failed r s left rest before now some h = h

same_batch : (closing : Option ℕ) (s t : Compilation) → t.batch ≡ s.batch → IfSome closing (λ least. s.batch ≡ least) → IfSome closing (λ least. t.batch ≡ least)
same_batch None s t same batch = tt
same_batch (Some least) s t same batch = same ∙ batch

-- before the first read
pub arriving_begins : (closing : Option ℕ) (left : Option (List ℕ)) (before : ℕ) (may_read : Bool) (s : Compilation) (c : Chunked) → c ≡ record { pending = []; count = 0; came = Bytes } → may_read ≡ true → IsUnread s
    → IfSome closing (λ least. s.batch ≡ least) → IsArriving closing left before left before may_read s c
arriving_begins closing left before may_read s c is may unread batch =
    subst (λ (x : Chunked). IsArriving closing left before left before may_read s x) (sym is) (record {
      came = [];
      piece = [];
      count = refl;
      few = omega arith;
      bytes = λ k d in'. absurd (omega arith);
      taken = none_prepended left;
      stands = (refl, may);
      short = omega arith;
      right = none_read closing;
      batch = batch;
      going = λ more few. unread more few;
    })

module _ (closing : Option ℕ) (first : Option (List ℕ)) (before : ℕ) where
  module _ (left : Option (List ℕ)) (now : ℕ) (may_read : Bool) (s : Compilation) (c : Chunked) (a : IsArriving closing first before left now may_read s c) where
    abbrev all : List ℕ
    all = a.came ++ a.piece

    pub few_all : length all ≤ max_read
    few_all = let few = a.few in let count = a.count in omega arith

    pub is_read : IsRead closing first left all
    is_read = record { taken = a.taken; few = few_all; before = a.came; piece = a.piece; pieces = refl; short = a.short; right = a.right }

    pub may_go : MayGo s c.pending
    may_go = (all ++ [], [], a.going [] (let few = few_all in let n = append-nil all in omega (arith, few, ap length n)))

    -- where none is pending
    going_none : c.pending ≡ [] → (more : List ℕ) → length (all ++ more) ≤ max_read → IsGoing (all ++ more) s more
    going_none none more few = subst (λ (l : List ℕ). IsGoing (all ++ more) s (l ++ more)) none (a.going more few)

    pub going_here : c.pending ≡ [] → IsGoing all s []
    going_here none = going_all s all [] (going_none none) few_all

    pub may_end : c.pending ≡ [] → MayEnd s
    may_end none = (all, a.bytes, going_here none)

    -- what is left is what was left
    pub goes_on : (t : Compilation) (d : Chunked) → t.batch ≡ s.batch → d.count ≡ c.count → d.came ≡ c.came → ((bytes more : List ℕ) → IsGoing bytes s (c.pending ++ more) → IsGoing bytes t (d.pending ++ more)) → IsArriving closing first before left now may_read t d
    goes_on t d batch count same goes = record {
      came = a.came;
      piece = a.piece;
      count = a.count ∙ sym count;
      few = let few = a.few in omega arith;
      bytes = a.bytes;
      taken = a.taken;
      stands = subst (λ (z : ReadStatus × ℕ). StandsAt z.0 left before now z.1 may_read) (λ i. (sym same i, sym count i)) a.stands;
      short = a.short;
      right = a.right;
      batch = same_batch closing s t batch a.batch;
      going = λ more few. goes (all ++ more) more (a.going more few);
    }

    -- pending bytes were taken
    pub pending_taken : (t : Compilation) (d : Chunked) (taken : ℕ) → t.batch ≡ s.batch → d ≡ record c { pending = drop taken c.pending } → ((bytes more : List ℕ) → IsGoing bytes s (c.pending ++ more) → IsGoing bytes t (drop taken c.pending ++ more)) → IsArriving closing first before left now may_read t d
    pending_taken t d taken batch is goes =
        goes_on t d batch (ap (λ (x : Chunked). x.count) is) (ap (λ (x : Chunked). x.came) is) (λ bytes more g. subst (λ (x : Chunked). IsGoing bytes t (x.pending ++ more)) (sym is) (goes bytes more g))

    -- the compilation found what the bytes come to
    pub stops_there : (stop : FrontStop) (t : Compilation) → ((more : List ℕ) → length (all ++ more) ≤ max_read → GoesOn (all ++ more) (Err stop) t more) → before < 2 ^ 64 - 1 → Settled closing (has_failed c.came) (Err stop) t first left before now
    stops_there stop t goes low = of c.came a.stands
      where
        of : (x : ReadStatus) → StandsAt x left before now c.count may_read → Settled closing (has_failed x) (Err stop) t first left before now
        of Bytes h = early closing all first left before now is_read stop t h.0 goes
        of Full h = early closing all first left before now is_read stop t h.0 goes
        of End h = early closing all first left before now is_read stop t h.0 goes
        of Failed h = at_fault closing all first left before now is_read (Err stop) t low h
            (going_decides all stop t t [] (subst (λ (l : List ℕ). GoesOn l (Err stop) t []) (append-nil all) (goes [] (let few = few_all in omega (arith, few, ap length (append-nil all))))))

    -- no more bytes come
    pub ends_there : (r : Result (Unit {0}) FrontStop) (t : Compilation) → (c.came ≡ Bytes → ⊥) → Decides all r t → before < 2 ^ 64 - 1 → Settled closing (has_failed c.came) r t first left before now
    ends_there r t over d low = of c.came refl a.stands
      where
        of : (x : ReadStatus) → c.came ≡ x → StandsAt x left before now c.count may_read → Settled closing (has_failed x) r t first left before now
        of Bytes e h = absurd (over e)
        of Full e h = at_limit closing all first left before now is_read r t (let n = a.count in let m = h.1 in omega arith) h.0 d
        of End e h = at_end closing all first left before now is_read r t h.1 h.0 d
        of Failed e h = at_fault closing all first left before now is_read r t low h d

    -- the source is otherwise
    pub stands_so : (left' : Option (List ℕ)) (now' : ℕ) (may_read' : Bool) (x : ReadStatus) (d : Chunked) → d ≡ record c { came = x } → left' ≡ left → StandsAt x left' before now' c.count may_read' → IsArriving closing first before left' now' may_read' s d
    stands_so left' now' may_read' x d is same stands = subst (λ (y : Chunked). IsArriving closing first before left' now' may_read' s y) (sym is) (record {
      came = a.came;
      piece = a.piece;
      count = a.count;
      few = a.few;
      bytes = a.bytes;
      taken = a.taken ∙ ap (prepend_known all) (sym same);
      stands = stands;
      short = a.short;
      right = a.right;
      batch = a.batch;
      going = a.going;
    })

    at_bytes : c.came ≡ Bytes → (now ≡ before) × (may_read ≡ true)
    at_bytes is = subst (λ (x : ReadStatus). StandsAt x left before now c.count may_read) is a.stands

    pub may_be_read : c.came ≡ Bytes → may_read ≡ true
    may_be_read is = (at_bytes is).1

    pub read_full : (d : Chunked) → c.came ≡ Bytes → d ≡ record c { came = Full } → max_read ≤ c.count → IsArriving closing first before left now may_read s d
    read_full d is e le = stands_so left now may_read Full d e refl ((at_bytes is).0, le)

    pub read_end : (left' : Option (List ℕ)) (now' : ℕ) (may_read' : Bool) (d : Chunked) → c.came ≡ Bytes → d ≡ record c { came = End } → IsAtEnd left → left' ≡ left → now' ≡ now → IsArriving closing first before left' now' may_read' s d
    read_end left' now' may_read' d is e over same calm = stands_so left' now' may_read' End d e same (calm ∙ (at_bytes is).0, subst IsAtEnd (sym same) over)

    pub read_failed : (left' : Option (List ℕ)) (now' : ℕ) (may_read' : Bool) (d : Chunked) → c.came ≡ Bytes → d ≡ record c { came = Failed } → left' ≡ left → Rose now now' → IsArriving closing first before left' now' may_read' s d
    read_failed left' now' may_read' d is e same rose = stands_so left' now' may_read' Failed d e same (subst (λ (n : ℕ). Rose n now') (at_bytes is).0 rose)

    pub read_more : (left' : Option (List ℕ)) (now' : ℕ) (may_read' : Bool) (piece : List ℕ) (d : Chunked) → c.came ≡ Bytes → c.pending ≡ [] → IsErrorFree s → ClosedAreValid closing s → d ≡ record { pending = piece; count = c.count + length piece; came = Bytes }
        → All (λ b. b < 256) piece → length piece ≤ 65536 → c.count + length piece ≤ max_read → left ≡ prepend_known piece left' → now' ≡ now → may_read' ≡ true → IsArriving closing first before left' now' may_read' s d
    read_more left' now' may_read' piece d is none free valid e are short few took calm may =
        subst (λ (y : Chunked). IsArriving closing first before left' now' may_read' s y) (sym e) (record {
          came = all;
          piece = piece;
          count = let n = a.count in omega (arith, n, length-append all piece);
          few = few;
          bytes = All-append (λ b. b < 256) all piece a.bytes are;
          taken = a.taken ∙ came_more all piece left left' took;
          stands = (calm ∙ (at_bytes is).0, may);
          short = short;
          right = valid_prefix closing all s (going_here none) free valid;
          batch = a.batch;
          going = λ more fits. going_piece s all piece (going_none none) more fits;
        })

    pub read_bytes : (left' : Option (List ℕ)) (now' : ℕ) (may_read' : Bool) (n room : ℕ) (xs : List ℕ) (d : Chunked) → c.came ≡ Bytes → c.pending ≡ [] → IsErrorFree s → ClosedAreValid closing s → d ≡ record { pending = take n xs; count = c.count + n; came = Bytes }
        → All (λ b. b < 256) xs → n ≤ length (take room xs) → room ≤ 65536 → c.count + room ≤ max_read → left ≡ prepend_known (take n (take room xs)) left' → now' ≡ now → may_read' ≡ true → IsArriving closing first before left' now' may_read' s d
    read_bytes left' now' may_read' n room xs d is none free valid e are fits short few took calm may =
        let len : length (take n xs) ≡ n = omega (arith, length-take n xs, length-take room xs) in
        let within : n ≤ room = omega (arith, length-take room xs) in
        read_more left' now' may_read' (take n xs) d is none free valid (e ∙ (λ i. record { pending = take n xs; count = c.count + sym len i; came = Bytes })) (All-take (λ b. b < 256) n xs are) (omega arith) (omega arith)
        (took ∙ ap (λ (l : List ℕ). prepend_known l left') (take-take n room xs within)) calm may
