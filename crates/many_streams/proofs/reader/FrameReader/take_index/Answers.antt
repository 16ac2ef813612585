use Rattle.std.proofs.Common.{◌≡◌, ◌<◌, ◌≤◌, ◌⊎◌, ◌++◌, Bool, ◌+◌, ◌-◌, ℕ, List, inl, inr, true, false, get_or, length, ap, subst, arith, refl, length-append}
use Rattle.many_streams.specs.Frames.{u32, encoding}
use Rattle.many_streams.specs.Reading.{Progress, HasIndex}
use Rattle.many_streams.proofs.Numbers.{bad_index}
use Rattle.many_streams.proofs.reader.FrameReader.take_index.Goals.{then-self-number-via-then-self-number, then-self-number-via-else-self-number+then-self-number-2}
use Rattle.many_streams.proofs.reader.FrameReader.take_index.Goals as goal

-- a number has four bytes
place_of : (bytes : List ℕ) (of : ℕ → List ℕ) (f : Progress) (n at : ℕ) → HasIndex bytes of f n → at ≡ f.at → f.at ≡ (at - 4) + 4
place_of bytes of f n at c same =
    let w = c.between in let at' = w.at in
    let e : length bytes ≡ length (encoding f.modules c.chunks ++ u32 n) = ap length c.are in
    let long : length (u32 n) ≡ 4 = refl in
    let sum = length-append (encoding f.modules c.chunks) (u32 n) in omega arith

pub overflow_sub-place : goal.overflow_sub-place
overflow_sub-place c =
    let at : c.self.inside.at ≡ c.args.self.now.at = ap (λ (f : Progress). f.at) c.self.view_is in
    let p = place_of c.requires.0 c.requires.1 c.args.self.now c.args.number c.self.inside.at c.requires.2 at in omega arith

pub returns-then-self-number-clause-takes : goal.returns-then-self-number-clause-takes
returns-then-self-number-clause-takes c =
    let now = c.args.self.now in
    λ bytes of n more.
    let at : c.self.inside.at ≡ now.at = ap (λ (f : Progress). f.at) c.self.view_is in
    let modules : c.self.inside.modules ≡ now.modules = ap (λ (f : Progress). f.modules) c.self.view_is in
    let bad : (now.modules ≤ c.args.number) ⊎ ((c.args.number < now.modules) × (get_or now.ended c.args.number false ≡ true)) =
    elim c.then-self-number.branch [
      | then-self-number-via-then-self-number w ↦ inl (omega arith)
      | then-self-number-via-else-self-number+then-self-number-2 w ↦
          inr (omega arith, subst (λ (l : List Bool). get_or l c.args.number false ≡ true) (ap (λ (f : Progress). f.ended) c.self.view_is) w.if-self-number-2.true)
    ] in
    bad_index bytes of now c.args.number (c.self.inside.at - 4) n (omega arith) bad (place_of bytes of now c.args.number c.self.inside.at n at) more
