-- A number was read, byte by byte.
use Rattle.std.proofs.Common.{◌≡◌, ◌<◌, ◌≤◌, ◌+◌, ◌^◌, ◌⊎◌, inl, inr, ℕ, Result, Ok, Err, true, false, eqb, List, [], ◌∷◌, ◌++◌, length, get_or, take, drop, sym, refl, ap, ◌∙◌, subst, arith, append_assoc, length-append}
use Rattle.std.proofs.Math.ListN.{set}
use Rattle.std.proofs.lemmas.List.{take-append-drop, append-nil}
use Rattle.many_streams.specs.declared.limits.TheConstants.{MAX_INPUT, MAX_MODULES}
use Rattle.many_streams.specs.declared.reader.Next.{Next}
use Rattle.many_streams.specs.declared.reader.Next.TheVariants as next
use Rattle.many_streams.specs.declared.reader.Taken.{Taken}
use Rattle.many_streams.specs.declared.reader.Taken.TheVariants as taken
use Rattle.many_streams.specs.Frames.{u32, encoding, bytes_of, is_ended, IsBadFrame}
use Rattle.many_streams.specs.Reading.{Progress, IsReading, IsBetween, HasCount, HasIndex, HasLength, StandsAt, IsNumberNext, IsKnown, Takes, TakesNumber}
use Rattle.many_streams.proofs.Chunks.{nothing, no_bytes, formed_push, next_empty, known_ended, ended_bytes, of_ended}
use Rattle.many_streams.proofs.Errors.{error_refused}
use Rattle.many_streams.proofs.Ending.{cut_too_long}

-- ---- the number of modules

pub bad_count : (bytes : List ℕ) (of : ℕ → List ℕ) (f : Progress) (n : ℕ) → HasCount bytes of f n → n < 2 ^ 32 → (n ≡ 0) ⊎ (MAX_MODULES < n)
    → (more : List ℕ) → IsBadFrame (bytes ++ more) 0
bad_count bytes of f n c fits bad more =
    error_refused bytes 0 more c.between.few (inl (record {
      place =
          refl;
      count = n;
      more = [];
      fits = fits;
      bad = bad;
      are = c.are ∙ sym (append-nil (u32 n));
    }))

-- ---- the number of a chunk's module

pub bad_index : (bytes : List ℕ) (of : ℕ → List ℕ) (f : Progress) (n at : ℕ) → HasIndex bytes of f n → n < 2 ^ 32
    → (f.modules ≤ n) ⊎ ((n < f.modules) × (get_or f.ended n false ≡ true)) → f.at ≡ at + 4
    → (more : List ℕ) → IsBadFrame (bytes ++ more) at
bad_index bytes of f n at c fits bad place more = error_refused bytes at more c.between.few (inr (inl (record {
  count = f.modules;
  chunks = c.chunks;
  index = n;
  more = [];
  begins = record { formed = c.among.formed; are = c.are ∙ ap (λ (l : List ℕ). encoding f.modules c.chunks ++ l) (sym (append-nil (u32 n))) };
  owes = c.among.owes;
  fits = fits;
  bad = of_flag bad;
  place = here;
})))
  where
    of_flag : (f.modules ≤ n) ⊎ ((n < f.modules) × (get_or f.ended n false ≡ true)) → (f.modules ≤ n) ⊎ (is_ended n c.chunks ≡ true)
    of_flag (inl many) = inl many
    of_flag (inr (in', flag)) = inr (sym (c.among.known.1 n in') ∙ flag)

    here : at ≡ length (encoding f.modules c.chunks)
    here =
        let w = c.between in let at' = w.at in
        let e : length bytes ≡ length (encoding f.modules c.chunks ++ u32 n) = ap length c.are in
        let long : length (u32 n) ≡ 4 = refl in
        let sum = length-append (encoding f.modules c.chunks) (u32 n) in omega arith

-- ---- the length of a chunk

pub measured : (bytes : List ℕ) (of : ℕ → List ℕ) (f : Progress) (m n : ℕ) → HasLength bytes of f m n → 0 < n → n < 2 ^ 32
    → IsReading bytes of (record f { next = next.Bytes m n })
measured bytes of f m n c some fits = record {
  few = c.between.few;
  at = c.between.at;
  stands = (
    c.chunks,
    [],
    c.among,
    c.going,
    c.between.number,
    some,
    omega arith,
    c.are ∙ (ap (λ (l : List ℕ). encoding f.modules c.chunks ++ (u32 m ++ l)) (sym (append-nil (u32 n)))
        ∙ ap (λ (k : ℕ). encoding f.modules c.chunks ++ (u32 m ++ (u32 k ++ []))) none),
    λ i. c.each i ∙ (sym (append-nil (bytes_of i c.chunks)) ∙ ap (λ (l : List ℕ). bytes_of i c.chunks ++ l) (sym (no_bytes (eqb m i)))),
  );
}
  where
    none : n ≡ length nothing + n
    none = omega arith

-- ---- a module ends

pub ended_all : (bytes : List ℕ) (of : ℕ → List ℕ) (f f' : Progress) (m : ℕ) → f.modules ≤ 64 → HasLength bytes of f m 0
    → f' ≡ record f { ended = set f.ended m true; next = next.Nothing }
    → ((i : ℕ) → i < f.modules → get_or (set f.ended m true) i false ≡ true) → IsReading bytes of f' × (f'.modules ≡ f.modules) × (m < f.modules)
ended_all bytes of f f' m few c same all = subst (λ (g : Progress). IsReading bytes of g × (g.modules ≡ f.modules) × (m < f.modules)) (sym same) (
  record {
    few = c.between.few;
    at = c.between.at;
    stands = (
      c.chunks ++ record { index = m; bytes = [] } ∷ [],
      formed_push f.modules c.chunks (record { index = m; bytes = [] }) c.among.formed (next_empty f.modules c.chunks m c.going),
      (λ i in'. sym ((known_ended f.modules m f.ended c.chunks few c.going.0 c.among.known).1 i in') ∙ all i in'),
      all,
      c.between.number,
      ended_bytes f.modules m c.chunks bytes c.are,
      of_ended of c.chunks m c.each,
    );
  },
  refl,
  c.going.0,
)

pub ended_one : (bytes : List ℕ) (of : ℕ → List ℕ) (f f' : Progress) (m i : ℕ) → f.modules ≤ 64 → HasLength bytes of f m 0
    → f' ≡ record f { ended = set f.ended m true; next = next.Index }
    → i < f.modules → get_or (set f.ended m true) i false ≡ false → IsReading bytes of f' × (f'.modules ≡ f.modules) × (m < f.modules)
ended_one bytes of f f' m i few c same in' going = subst (λ (g : Progress). IsReading bytes of g × (g.modules ≡ f.modules) × (m < f.modules)) (sym same) (
  record {
    few = c.between.few;
    at = c.between.at;
    stands = (
      c.chunks ++ record { index = m; bytes = [] } ∷ [],
      record {
        formed = formed_push f.modules c.chunks (record { index = m; bytes = [] }) c.among.formed (next_empty f.modules c.chunks m c.going);
        known = known_ended f.modules m f.ended c.chunks few c.going.0 c.among.known;
        owes = (i, (in', sym ((known_ended f.modules m f.ended c.chunks few c.going.0 c.among.known).1 i in') ∙ going));
      },
      ended_bytes f.modules m c.chunks bytes c.are ∙ (sym (append-nil (encoding f.modules (c.chunks ++ record { index = m; bytes = [] } ∷ []))) ∙ ap (λ (l : List ℕ). encoding f.modules (c.chunks ++ record {
        index =
            m;
        bytes = [];
      } ∷ []) ++ l) (sym c.between.number)),
      of_ended of c.chunks m c.each,
    );
  },
  refl,
  c.going.0,
)

-- a module whose chunk's length comes has not ended
pub length_flag : (bytes : List ℕ) (of : ℕ → List ℕ) (f : Progress) (m n : ℕ) → HasLength bytes of f m n → (get_or f.ended m false ≡ false) × (m < length f.ended)
length_flag bytes of f m n c =
    let known = c.among.known in
    let count = known.0 in
    let few = c.among.formed.few in
    let below = c.going.0 in
    (known.1 m c.going.0 ∙ c.going.1, omega arith)

-- nor one whose bytes come
pub bytes_flag : (bytes : List ℕ) (of : ℕ → List ℕ) (f : Progress) (m left : ℕ) → f.next ≡ next.Bytes m left → IsReading bytes of f → get_or f.ended m false ≡ false
bytes_flag bytes of f m left at r = on (subst (λ (p : Next). StandsAt p f bytes of) at r.stands)
  where
    on : StandsAt (next.Bytes m left) f bytes of → get_or f.ended m false ≡ false
    on (cs, came, among, going, none, owed, fits, are, each) = among.known.1 m going.0 ∙ going.1

-- ---- a byte of a number

whole_now : (bytes : List ℕ) (of : ℕ → List ℕ) (f : Progress) (b : ℕ) → IsReading bytes of f → f.at < MAX_INPUT
    → IsBetween (bytes ++ b ∷ []) (record f { at = f.at + 1; number = [] })
whole_now bytes of f b r room = record {
  few = let l = length-append bytes (b ∷ []) in let at' = r.at in omega arith;
  at = let l = length-append bytes (b ∷ []) in let at' = r.at in omega arith;
  number = refl;
}

pub count_known : (bytes : List ℕ) (of : ℕ → List ℕ) (f f' : Progress) (b n : ℕ) → f.next ≡ next.Count → IsReading bytes of f → f.at < MAX_INPUT
    → u32 n ≡ f.number ++ b ∷ [] → f' ≡ record f { at = f.at + 1; number = [] }
    → HasCount (bytes ++ b ∷ []) of f' n
count_known bytes of f f' b n at r room known same = on (subst (λ (p : Next). StandsAt p f bytes of) at r.stands)
  where
    on : StandsAt next.Count f bytes of → HasCount (bytes ++ b ∷ []) of f' n
    on (are, count, flags, each, none) = subst (λ (g : Progress). HasCount (bytes ++ b ∷ []) of g n) (sym same) (record {
      between = whole_now bytes of f b r room;
      are = ap (λ (l : List ℕ). l ++ b ∷ []) are ∙ sym known;
      flags = (count, flags);
      each = each;
      none = none;
    })

pub index_known : (bytes : List ℕ) (of : ℕ → List ℕ) (f f' : Progress) (b n : ℕ) → f.next ≡ next.Index → IsReading bytes of f → f.at < MAX_INPUT
    → u32 n ≡ f.number ++ b ∷ [] → f' ≡ record f { at = f.at + 1; number = [] }
    → HasIndex (bytes ++ b ∷ []) of f' n
index_known bytes of f f' b n at r room known same = on (subst (λ (p : Next). StandsAt p f bytes of) at r.stands)
  where
    on : StandsAt next.Index f bytes of → HasIndex (bytes ++ b ∷ []) of f' n
    on (cs, among, are, each) = subst (λ (g : Progress). HasIndex (bytes ++ b ∷ []) of g n) (sym same) (record {
      between = whole_now bytes of f b r room;
      chunks = cs;
      among = among;
      are = ap (λ (l : List ℕ). l ++ b ∷ []) are
          ∙ (append_assoc (encoding f.modules cs) f.number (b ∷ []) ∙ ap (λ (l : List ℕ). encoding f.modules cs ++ l) (sym known));
      each = each;
    })

pub length_known : (bytes : List ℕ) (of : ℕ → List ℕ) (f f' : Progress) (b m n : ℕ) → f.next ≡ next.Length m → IsReading bytes of f → f.at < MAX_INPUT
    → u32 n ≡ f.number ++ b ∷ [] → f' ≡ record f { at = f.at + 1; number = [] }
    → HasLength (bytes ++ b ∷ []) of f' m n
length_known bytes of f f' b m n at r room known same = on (subst (λ (p : Next). StandsAt p f bytes of) at r.stands)
  where
    on : StandsAt (next.Length m) f bytes of → HasLength (bytes ++ b ∷ []) of f' m n
    on (cs, among, going, are, each) = subst (λ (g : Progress). HasLength (bytes ++ b ∷ []) of g m n) (sym same) (record {
      between = whole_now bytes of f b r room;
      chunks = cs;
      among = among;
      going = going;
      are = ap (λ (l : List ℕ). l ++ b ∷ []) are
          ∙ (append_assoc (encoding f.modules cs) (u32 m ++ f.number) (b ∷ [])
          ∙ ap (λ (l : List ℕ). encoding f.modules cs ++ l) (append_assoc (u32 m) f.number (b ∷ []) ∙ ap (λ (l : List ℕ). u32 m ++ l) (sym known)));
      each = each;
    })

-- ---- what taking comes to

parts : (bytes piece more : List ℕ) (n : ℕ) → (bytes ++ take n piece) ++ (drop n piece ++ more) ≡ bytes ++ (piece ++ more)
parts bytes piece more n =
    append_assoc bytes (take n piece) (drop n piece ++ more)
    ∙ ap (λ (l : List ℕ). bytes ++ l) (sym (append_assoc (take n piece) (drop n piece) more) ∙ ap (λ (l : List ℕ). l ++ more) (take-append-drop n piece))

-- a number that is known was taken
pub taken_number : (bytes : List ℕ) (of : ℕ → List ℕ) (piece : List ℕ) (t : Result Taken ℕ) (f f' f'' : Progress) → f'.modules ≡ f.modules
    → TakesNumber (bytes ++ take 1 piece) of t f' f'' → Takes bytes of piece t f f''
taken_number bytes of piece (Ok taken.Number) f f' f'' same t = (t.0, t.1 ∙ same)
taken_number bytes of piece (Ok taken.Count) f f' f'' same t = (t.0, t.1, sym same ∙ t.2)
taken_number bytes of piece (Ok (taken.End m)) f f' f'' same t = (t.0, t.1 ∙ same, let below = t.2 in omega arith)
taken_number bytes of piece (Ok (taken.Bytes m n)) f f' f'' same t = absurd t
taken_number bytes of piece (Err at) f f' f'' same t = λ more. subst (λ (l : List ℕ). IsBadFrame l at) (parts bytes piece more 1) (t (drop 1 piece ++ more))

pub same_modules : (piece : List ℕ) (n : ℕ) (f f' : Progress) → IsKnown piece n f f' → f'.modules ≡ f.modules
same_modules piece n f f' k = ap (λ (g : Progress). g.modules) k.after

pub count_now : (bytes : List ℕ) (of : ℕ → List ℕ) (piece : List ℕ) (n : ℕ) (f f' : Progress) → f.next ≡ next.Count → IsReading bytes of f
    → IsKnown piece n f f' → HasCount (bytes ++ take 1 piece) of f' n
count_now bytes of piece n f f' at r k =
    subst (λ (l : List ℕ). HasCount (bytes ++ l) of f' n) (sym k.taken) (count_known bytes of f f' k.byte n at r k.room k.number k.after)

pub index_now : (bytes : List ℕ) (of : ℕ → List ℕ) (piece : List ℕ) (n : ℕ) (f f' : Progress) → f.next ≡ next.Index → IsReading bytes of f
    → IsKnown piece n f f' → HasIndex (bytes ++ take 1 piece) of f' n
index_now bytes of piece n f f' at r k =
    subst (λ (l : List ℕ). HasIndex (bytes ++ l) of f' n) (sym k.taken) (index_known bytes of f f' k.byte n at r k.room k.number k.after)

pub length_now : (bytes : List ℕ) (of : ℕ → List ℕ) (piece : List ℕ) (m n : ℕ) (f f' : Progress) → f.next ≡ next.Length m → IsReading bytes of f
    → IsKnown piece n f f' → HasLength (bytes ++ take 1 piece) of f' m n
length_now bytes of piece m n f f' at r k =
    subst (λ (l : List ℕ). HasLength (bytes ++ l) of f' m n) (sym k.taken) (length_known bytes of f f' k.byte m n at r k.room k.number k.after)

pub length_on : (bytes : List ℕ) (of : ℕ → List ℕ) (f f' : Progress) (m n : ℕ) → HasLength bytes of f m n → 0 < n → n < 2 ^ 32
    → f' ≡ record f { next = next.Bytes m n } → IsReading bytes of f' × (f'.modules ≡ f.modules)
length_on bytes of f f' m n c some fits same =
    subst (λ (g : Progress). IsReading bytes of g × (g.modules ≡ f.modules)) (sym same) (measured bytes of f m n c some fits, refl)

pub number_too_long : (bytes : List ℕ) (of : ℕ → List ℕ) (f : Progress) (piece more : List ℕ) → IsNumberNext f.next → length f.number < 4
    → IsReading bytes of f → 0 < length piece → f.at ≡ MAX_INPUT → IsBadFrame (bytes ++ (piece ++ more)) f.at
number_too_long bytes of f piece more next short r some full = cut_too_long bytes of f piece more (λ is. subst IsNumberNext is next) short r some full
