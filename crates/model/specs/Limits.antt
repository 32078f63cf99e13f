-- The numbers that document 01 fixes, each once and by name; the Rust's name where it has the constant.
use Rattle.std.specs.Prelude.{ℕ}

-- ---- Section 2

-- FX_PRIME
abbrev pub fx_prime : ℕ
fx_prime = 0x517cc1b727220a95

-- FX_ROTATE_BITS
abbrev pub fx_rotate_bits : ℕ
fx_rotate_bits = 5

-- INTERN_LENGTH_LIMIT: a longer string goes past the table
abbrev pub intern_length_limit : ℕ
intern_length_limit = 64

-- INITIAL_CAPACITY, in slots
abbrev pub initial_capacity : ℕ
initial_capacity = 256

-- LOAD_FACTOR_NUMERATOR and LOAD_FACTOR_DENOMINATOR
abbrev pub load_factor_numerator : ℕ
load_factor_numerator = 7

abbrev pub load_factor_denominator : ℕ
load_factor_denominator = 8

-- ---- Section 4

-- an `Option<StrId>` that is None: a missing id
abbrev pub no_string : ℕ
no_string = 0xffffffff

-- the highest level of a segment
abbrev pub max_level : ℕ
max_level = 32

-- NORMALIZED_SENTINEL_BYTE_LEN: a node's image without its padding
abbrev pub sentinel_length : ℕ
sentinel_length = 3

-- ---- Number 3

abbrev pub max_text : ℕ
max_text = 16777215

abbrev pub max_pool : ℕ
max_pool = 1048575

abbrev pub max_list : ℕ
max_list = 262143

abbrev pub max_layers : ℕ
max_layers = 32

-- ---- Number 18

abbrev pub max_new_strings : ℕ
max_new_strings = 3583

abbrev pub min_work_words : ℕ
min_work_words = 16384

-- ---- Runs

-- the greatest part of the program's input, and the size of each of its two result buffers
abbrev pub max_part : ℕ
max_part = 65536
