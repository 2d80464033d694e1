-- Comparisons of SQL, and casts that change nothing.
use Rattle.std.proofs.Common.{◌≡◌, ℕ, ℤ, suc, pos, List, [], ◌∷◌, map, drop, Bool, true, false, cond, ◌&&◌, ◌==◌, nat_lt, Some, None, Option, refl, ap, ap₂}
use Rattle.std.{proofs.{Common.{◌∙◌, arith}, lemmas.{Bool.Decides.nat_tests, Map.Text.is_eq-slice_cmp}}, specs.{Ordering.{int_cmp, is_eq, is_gt}, Str.bytes_eq}}
use Rattle.sqlite_value.{proofs.OrderLemmas.{value_cmp-Int, value_cmp-Text, value_cmp-Blob}, specs.Order.{Row, column}}
use Rattle.sqlite_value.specs.declared.{keys.Collation.TheVariants.Binary, value.Value.{Value, TheVariants.{Null, Int, Text, Blob}}}
use Rattle.sqlite_sql.specs.{Ops.{unary, binary, is_true, from_truth}, declared.ops.{BinaryOp.TheVariants.Compare, CompareOp.TheVariants.{Eq, Gt}}}
use Rattle.{sqlite_rules.specs.Cast.cast, sqlite.specs.Values.{bound_value, or_null}, hub_store.proofs.Rows.{Forms.are_params, Statements.keeps}}
use Rattle.hub_store.specs.Values.{number_or_null, moment_or_null, flag}
use Rattle.sqlite_schema.specs.declared.schema.Kind.TheVariants as kind
pub use Rattle.std.proofs.Math.Bool.{and-true}

-- ---- casts

either : (b : Bool) (x : Value) → cond b x x ≡ x
either true x = refl
either false x = refl

pub cast_int : (n : ℕ) → cast kind.Integer (Int (pos n)) ≡ Int (pos n)
unfolding unary
cast_int n = either _ (Int (pos n))

pub cast_null : cast kind.Integer Null ≡ Null
unfolding unary
cast_null = either _ Null

pub cast_option : (o : Option ℕ) → cast kind.Integer (number_or_null o) ≡ number_or_null o
cast_option None = cast_null
cast_option (Some n) = cast_int n

pub cast_moment : (o : Option ℤ) → cast kind.Integer (moment_or_null o) ≡ moment_or_null o
unfolding unary
cast_moment None = cast_null
cast_moment (Some n) = either _ (Int n)

pub cast_flag : (b : Bool) → cast kind.Integer (flag b) ≡ flag b
cast_flag true = cast_int 1
cast_flag false = cast_int 0

-- a moment that may be missing, as it is bound
pub bound_moment : (o : Option ℤ) → bound_value (or_null Int o) ≡ moment_or_null o
bound_moment None = refl
bound_moment (Some n) = refl

-- a number that may be missing, as it is bound
pub bound_option : (o : Option ℕ) → bound_value (or_null (λ n. Int (pos n)) o) ≡ number_or_null o
bound_option None = refl
bound_option (Some n) = refl

-- ---- comparisons

true_as : (b : Bool) → is_true (from_truth (Some b)) ≡ b
true_as true = refl
true_as false = refl

int_tie : (a b : ℕ) → is_eq (int_cmp (pos a) (pos b)) ≡ (a == b)
int_tie a b = grind (arith, nat_tests)

higher : (a b : ℕ) → is_gt (int_cmp (pos a) (pos b)) ≡ nat_lt b a
higher a b = grind (arith, nat_tests)

-- the test of a value in a WHERE
abbrev pub is_same : Value → Value → Bool
is_same v w = is_true (binary (Compare Eq Binary) v w)

pub equal_numbers : (a b : ℕ) → is_same (Int (pos a)) (Int (pos b)) ≡ (a == b)
unfolding binary
equal_numbers a b = true_as _ ∙ ap is_eq (value_cmp-Int (pos a) (pos b)) ∙ int_tie a b

pub equal_texts : (a b : List ℕ) → is_same (Text a) (Text b) ≡ bytes_eq a b
unfolding binary
equal_texts a b = true_as _ ∙ ap is_eq (value_cmp-Text a b) ∙ is_eq-slice_cmp a b

pub equal_blobs : (a b : List ℕ) → is_same (Blob a) (Blob b) ≡ bytes_eq a b
unfolding binary
equal_blobs a b = true_as _ ∙ ap is_eq (value_cmp-Blob a b) ∙ is_eq-slice_cmp a b

pub more_than : (a b : ℕ) → is_true (binary (Compare Gt Binary) (Int (pos a)) (Int (pos b))) ≡ nat_lt b a
unfolding binary
more_than a b = true_as _ ∙ ap is_gt (value_cmp-Int (pos a) (pos b)) ∙ higher a b

-- a column of a row without its rowid
pub column_past : (r : Row) (at : ℕ) → column r (suc at) ≡ column (drop 1 r) at
column_past [] at = refl
column_past (x ∷ r) at = refl

-- the columns from a place on are these values
abbrev pub begins : ℕ → Row → Row → Bool
begins at [] r = true
begins at (v ∷ vs) r = is_same (column r at) v && begins (suc at) vs r

-- ---- tests of a row, without its rowid

-- the columns at these places are the parameters, the first of them at an index
abbrev pub fits_at : ℕ → List ℕ → Row → Row → Bool
fits_at at [] params r = true
fits_at at (place ∷ places) params r = is_same (column r place) (column params at) && fits_at (suc at) places params r

-- without the rowid the columns stand one place earlier
pub past : (at : ℕ) (places : List ℕ) (params r : Row)
    → keeps (are_params at (map suc places)) params r ≡ fits_at at places params (drop 1 r)
past at [] params r = refl
past at (place ∷ places) params r =
    ap₂ (λ v b. is_same v (column params at) && b) (column_past r place) (past (suc at) places params r)
