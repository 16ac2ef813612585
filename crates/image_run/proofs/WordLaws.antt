-- Words in bytes: how many bytes they are.
use Rattle.std.proofs.Common.{◌≡◌, ℕ, List, ◌++◌, ap, ◌∙◌, append_assoc}

-- bytes that were appended are no longer to come
pub one_more : (so_far new rest whole now : List ℕ) → now ≡ so_far ++ new → so_far ++ (new ++ rest) ≡ whole → now ++ rest ≡ whole
one_more so_far new rest whole now e h = ap (λ (l : List ℕ). l ++ rest) e ∙ append_assoc so_far new rest ∙ h
