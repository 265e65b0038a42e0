-- Filters (Bloom's): bits by which it is told of most keys that a page doesn't hold them.
use Rattle.std.specs.Prelude.{◌≡◌, ℕ, ◌+◌, ◌*◌, ◌/◌, ◌%◌, ◌^◌, ◌<◌, List, fold, length, slice_index, Any, bit_or, bit_xor}
use Rattle.std.specs.Int.{bit_at, div_ceil}
use Rattle.lethe_base.specs.Keys.{Bytes}

-- the hash of Fowler, Noll and Vo with 64 bits, the form 1a
abbrev pub hash_of : Bytes → ℕ
hash_of key = fold (λ hash byte. bit_xor hash byte * 1099511628211 % 2 ^ 64) 14695981039346656037 key

-- how many bits the filter of so many keys has: ten for each, rounded up to whole words
abbrev pub filter_len : ℕ → ℕ
filter_len keys = 64 * div_ceil (10 * keys) 64

-- the low half of a hash
abbrev pub start_of : ℕ → ℕ
start_of hash = hash % 2 ^ 32

-- its high half, with the lowest bit set
abbrev pub step_of : ℕ → ℕ
step_of hash = bit_or (hash / 2 ^ 32) 1

-- one of the six bits of a hash, among so many bits
abbrev pub IsPlace : ℕ → ℕ → ℕ → Type 0
IsPlace bits hash bit = (i : ℕ) × (i < 6) × (bit ≡ (start_of hash + i * step_of hash) % bits)

-- one of the six bits of a key
abbrev pub IsProbe : ℕ → Bytes → ℕ → Type 0
IsProbe bits key bit = IsPlace bits (hash_of key) bit

-- the set of all probes of all the keys
abbrev pub filter_bits : List Bytes → ℕ → Type 0
filter_bits keys bit = Any (λ key. IsProbe (filter_len (length keys)) key bit) keys

-- bit b is bit b % 64, counted from the least, of word b / 64
abbrev pub IsSet : List ℕ → ℕ → Type 0
IsSet words bit = bit_at (slice_index words (bit / 64)) (bit % 64) ≡ 1

-- all probes of the key are set
abbrev pub MayHold : List ℕ → Bytes → Type 0
MayHold words key = (bit : ℕ) → IsProbe (64 * length words) key bit → IsSet words bit
