-- Small functions on lists of numbers: words of the table, bytes of a message.
use Rattle.std.specs.Prelude.{ℕ, ◌+◌, ◌-◌, Bool, true, false, List, [], ◌∷◌, get_or, take, drop, eqb}
use Rattle.base.specs.Pick.{pick}

-- a test holds of every element
unfoldable pub every : (ℕ → Bool) → List ℕ → Bool
every p [] = true
every p (x ∷ xs) = let r = every p xs in pick (p x) r false

-- a number stands in a list
unfoldable pub has : ℕ → List ℕ → Bool
has b [] = false
has b (x ∷ xs) = let r = has b xs in pick (eqb x b) true r

-- how often a number stands in a list
unfoldable pub count : ℕ → List ℕ → ℕ
count c [] = 0
count c (x ∷ xs) = pick (eqb x c) 1 0 + count c xs

-- two lists are the same
unfoldable pub same : List ℕ → List ℕ → Bool
same [] [] = true
same [] (y ∷ ys) = false
same (x ∷ xs) [] = false
same (x ∷ xs) (y ∷ ys) = let r = same xs ys in pick (eqb x y) r false

-- what stands before the first b, all if there is none
unfoldable pub before : ℕ → List ℕ → List ℕ
before b [] = []
before b (x ∷ xs) = let r = x ∷ before b xs in pick (eqb x b) [] r

-- what stands behind the first b, nothing if there is none
unfoldable pub behind : ℕ → List ℕ → List ℕ
behind b [] = []
behind b (x ∷ xs) = let r = behind b xs in pick (eqb x b) xs r

-- the elements from a place up to another
unfoldable pub part : List ℕ → ℕ → ℕ → List ℕ
part s a e = take (e - a) (drop a s)

-- b stands at a place; past the end stands 0, which is no byte that is asked for
unfoldable pub is_at : List ℕ → ℕ → ℕ → Bool
is_at s at b = eqb (get_or s at 0) b

-- the number of the first 0, counted from n; 0 if there is none
unfoldable pub lowest_absent : ℕ → List ℕ → ℕ
lowest_absent n [] = 0
lowest_absent n (x ∷ xs) = let r = lowest_absent (n + 1) xs in pick (eqb x 0) n r
