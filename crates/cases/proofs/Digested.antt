-- The digest of bytes from that of all but the last.
use Rattle.std.proofs.Common.{◌≡◌, ℕ, ◌+◌, ◌<◌, List, [], ◌∷◌, ◌++◌, length, get_or, take, sym, refl, ap, ◌∙◌, add-one, take-suc}
use Rattle.cases.specs.declared.digest.Digest.{Digest}
use Rattle.cases.specs.Bytes.{with_byte, with_bytes}

with_last : (d : Digest) (bytes : List ℕ) (b : ℕ) → with_bytes d (bytes ++ b ∷ []) ≡ with_byte (with_bytes d bytes) b
unfolding with_bytes
with_last d [] b = refl
with_last d (a ∷ bytes) b = with_last (with_byte d a) bytes b

-- The digest of the first i bytes, and the next byte.
pub next_digest : (d so_far : Digest) (bytes : List ℕ) (i : ℕ) → so_far ≡ with_bytes d (take i bytes) → i < length bytes →
    with_byte so_far (get_or bytes i 0) ≡ with_bytes d (take (i + 1) bytes)
next_digest d so_far bytes i e h =
    ap (λ s. with_byte s (get_or bytes i 0)) e ∙
    sym (ap (λ n. with_bytes d (take n bytes)) (add-one i) ∙ ap (with_bytes d) (take-suc bytes i 0 h) ∙ with_last d (take i bytes) (get_or bytes i 0))
