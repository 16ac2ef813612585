use Rattle.std.proofs.Common.{◌≡◌, ◌<◌, ◌≤◌, ◌++◌, ℕ, Bool, List, Option, Some, Result, Ok, Err, IfOk, length, arith, take, sym, ap, ◌∙◌, subst}
use Rattle.many_streams.specs.Frames.{IsBadFrame}
use Rattle.many_streams.specs.declared.reader.Taken.{Taken}
use Rattle.many_streams.specs.declared.reader.Taken.TheVariants as taken
use Rattle.many_streams.specs.Reading.{Progress, IsReading, HasCount, HasIndex, HasLength, MayTake, byte_count, with_more, IsKnown, Takes, TakesNumber, TakesDigit, SetsFlags}
use Rattle.many_streams.proofs.Ending.{trailing}
use Rattle.many_streams.proofs.Numbers.{count_now, index_now, length_now, taken_number, same_modules}
use Rattle.many_streams.proofs.reader.FrameReader.take.Goals as goal
use Rattle.many_streams.proofs.reader.FrameReader.take.Goals.{In-Some, In-Some-2, In-Some-3}

-- the number that came
known : (bytes : List ℕ) (of : ℕ → List ℕ) (piece : List ℕ) (o : Option ℕ) (n : ℕ) (f f' : Progress) → o ≡ Some n → TakesDigit bytes of piece (Ok o) f f'
    → IsKnown piece n f f'
known bytes of piece o n f f' same = subst (λ (x : Option ℕ). TakesDigit bytes of piece (Ok x) f f') same

-- what is taken with the last byte of a number
with_number : (bytes : List ℕ) (of : ℕ → List ℕ) (piece : List ℕ) (o : Option ℕ) (n : ℕ) (t : Result Taken ℕ) (f f' f'' : Progress) → o ≡ Some n
    → TakesDigit bytes of piece (Ok o) f f' → TakesNumber (bytes ++ take 1 piece) of t f' f'' → Takes bytes of piece t f f''
with_number bytes of piece o n t f f' f'' same digit =
    taken_number bytes of piece t f f' f'' (same_modules piece n f f' (known bytes of piece o n f f' same digit))

-- a digit sets no flags
flags_behind : (t : Result Taken ℕ) (old mid new : List Bool) → mid ≡ old → SetsFlags t mid new → SetsFlags t old new
flags_behind t old mid new same = subst (λ (l : List Bool). SetsFlags t l new) same

-- the reading goes on after what was taken
goes_on : (bytes : List ℕ) (of : ℕ → List ℕ) (piece : List ℕ) (t : Result Taken ℕ) (f f' : Progress) → 0 < length piece → Takes bytes of piece t f f'
    → IfOk t (λ x. MayTake f' × (0 < byte_count x) × (byte_count x ≤ length piece))
goes_on bytes of piece (Ok taken.Number) f f' some t = ((bytes ++ take 1 piece, of, t.0), omega arith, omega arith)
goes_on bytes of piece (Ok taken.Count) f f' some t = ((bytes ++ take 1 piece, of, t.0), omega arith, omega arith)
goes_on bytes of piece (Ok (taken.End m)) f f' some t = ((bytes ++ take 1 piece, of, t.0), omega arith, omega arith)
goes_on bytes of piece (Ok (taken.Bytes m n)) f f' some t = ((bytes ++ take n piece, with_more of m (take n piece), t.0), t.3, t.4)
goes_on bytes of piece (Err at) f f' some t = tt

-- ---- the number of modules

has_count : (c : In-Some) (bytes : List ℕ) (of : ℕ → List ℕ) → IsReading bytes of c.args.self.now
    → HasCount (bytes ++ take 1 c.args.piece.now) of c.take_digit.new.self c.in-Some.number
has_count c bytes of r =
    let digit = known bytes of c.args.piece.now _ c.in-Some.number c.args.self.now c.take_digit.new.self c.in-Some.is (c.in_ok-number-in-Count.ensures.takes bytes of r) in
    let at = sym (ap (λ (f : Progress). f.next) c.self.view_is) ∙ c.in-Count.is in
    count_now bytes of c.args.piece.now c.in-Some.number c.args.self.now c.take_digit.new.self at r digit

pub returns-in-Some-clause-taken : goal.returns-in-Some-clause-taken
returns-in-Some-clause-taken c = λ bytes of r.
    with_number bytes of c.args.piece.now _ c.in-Some.number c.take_count.result c.args.self.now c.take_digit.new.self c.take_count.new.self c.in-Some.is
    (c.in_ok-number-in-Count.ensures.takes bytes of r)
    (c.take_count.ensures.takes (bytes ++ take 1 c.args.piece.now) of (has_count (goal.at.returns-in-Some-clause-taken c).In-Some bytes of r))

pub returns-in-Some-clause-on : goal.returns-in-Some-clause-on
returns-in-Some-clause-on c =
    let m = c.requires.may in goes_on m.0 m.1 c.args.piece.now c.take_count.result c.args.self.now c.take_count.new.self c.requires.some (returns-in-Some-clause-taken c m.0 m.1 m.2)

pub returns-in-Some-clause-flags : goal.returns-in-Some-clause-flags
returns-in-Some-clause-flags c =
    flags_behind c.take_count.result c.args.self.now.ended c.take_digit.new.self.ended c.take_count.new.self.ended c.take_digit.ensures.flags c.take_count.ensures.flags

-- ---- the number of a chunk's module

has_index : (c : In-Some-2) (bytes : List ℕ) (of : ℕ → List ℕ) → IsReading bytes of c.args.self.now
    → HasIndex (bytes ++ take 1 c.args.piece.now) of c.take_digit-in-Index.new.self c.in-Some-2.number
has_index c bytes of r =
    let digit = known bytes of c.args.piece.now _ c.in-Some-2.number c.args.self.now c.take_digit-in-Index.new.self c.in-Some-2.is (c.in_ok-number-in-Index.ensures.takes bytes of r) in
    let at = sym (ap (λ (f : Progress). f.next) c.self.view_is) ∙ c.in-Index.is in
    index_now bytes of c.args.piece.now c.in-Some-2.number c.args.self.now c.take_digit-in-Index.new.self at r digit

pub take_index-requires : goal.take_index-requires
take_index-requires c = let m = c.requires.may in (m.0 ++ take 1 c.args.piece.now, m.1, has_index (goal.at.take_index-requires c).In-Some-2 m.0 m.1 m.2)

pub returns-in-Some-2-clause-taken : goal.returns-in-Some-2-clause-taken
returns-in-Some-2-clause-taken c = λ bytes of r.
    with_number bytes of c.args.piece.now _ c.in-Some-2.number c.take_index.result c.args.self.now c.take_digit-in-Index.new.self c.take_index.new.self c.in-Some-2.is
    (c.in_ok-number-in-Index.ensures.takes bytes of r)
    (c.take_index.ensures.takes (bytes ++ take 1 c.args.piece.now) of (has_index (goal.at.returns-in-Some-2-clause-taken c).In-Some-2 bytes of r))

pub returns-in-Some-2-clause-on : goal.returns-in-Some-2-clause-on
returns-in-Some-2-clause-on c =
    let m = c.requires.may in goes_on m.0 m.1 c.args.piece.now c.take_index.result c.args.self.now c.take_index.new.self c.requires.some (returns-in-Some-2-clause-taken c m.0 m.1 m.2)

pub returns-in-Some-2-clause-flags : goal.returns-in-Some-2-clause-flags
returns-in-Some-2-clause-flags c =
    flags_behind c.take_index.result c.args.self.now.ended c.take_digit-in-Index.new.self.ended c.take_index.new.self.ended c.take_digit-in-Index.ensures.flags c.take_index.ensures.flags

-- ---- the length of a chunk

has_length : (c : In-Some-3) (bytes : List ℕ) (of : ℕ → List ℕ) → IsReading bytes of c.args.self.now
    → HasLength (bytes ++ take 1 c.args.piece.now) of c.take_digit-in-Length.new.self c.in-Length.index c.in-Some-3.number
has_length c bytes of r =
    let digit = known bytes of c.args.piece.now _ c.in-Some-3.number c.args.self.now c.take_digit-in-Length.new.self c.in-Some-3.is (c.in_ok-number-in-Length.ensures.takes bytes of r) in
    let at = sym (ap (λ (f : Progress). f.next) c.self.view_is) ∙ c.in-Length.is in
    length_now bytes of c.args.piece.now c.in-Length.index c.in-Some-3.number c.args.self.now c.take_digit-in-Length.new.self at r digit

pub take_length-requires : goal.take_length-requires
take_length-requires c = let m = c.requires.may in (m.0 ++ take 1 c.args.piece.now, m.1, has_length (goal.at.take_length-requires c).In-Some-3 m.0 m.1 m.2)

pub returns-in-Some-3-clause-taken : goal.returns-in-Some-3-clause-taken
returns-in-Some-3-clause-taken c = λ bytes of r.
    with_number bytes of c.args.piece.now _ c.in-Some-3.number c.take_length.result c.args.self.now c.take_digit-in-Length.new.self c.take_length.new.self c.in-Some-3.is
    (c.in_ok-number-in-Length.ensures.takes bytes of r)
    (c.take_length.ensures.takes (bytes ++ take 1 c.args.piece.now) of (has_length (goal.at.returns-in-Some-3-clause-taken c).In-Some-3 bytes of r))

pub returns-in-Some-3-clause-on : goal.returns-in-Some-3-clause-on
returns-in-Some-3-clause-on c =
    let m = c.requires.may in goes_on m.0 m.1 c.args.piece.now c.take_length.result c.args.self.now c.take_length.new.self c.requires.some (returns-in-Some-3-clause-taken c m.0 m.1 m.2)

pub returns-in-Some-3-clause-flags : goal.returns-in-Some-3-clause-flags
returns-in-Some-3-clause-flags c =
    flags_behind c.take_length.result c.args.self.now.ended c.take_digit-in-Length.new.self.ended c.take_length.new.self.ended c.take_digit-in-Length.ensures.flags c.take_length.ensures.flags

-- ---- no byte may follow

pub returns-in-Nothing-clause-taken : goal.returns-in-Nothing-clause-taken
returns-in-Nothing-clause-taken c =
    let piece = c.args.piece.now in
    let now = c.args.self.now in
    λ bytes of r more.
    let at : c.self.inside.at ≡ now.at = ap (λ (f : Progress). f.at) c.self.view_is in
    subst (λ (n : ℕ). IsBadFrame (bytes ++ (piece ++ more)) n) (sym at) (trailing bytes of now piece more (sym (ap (λ (f : Progress). f.next) c.self.view_is)
    ∙ c.in-Nothing.is) r c.requires.some)
