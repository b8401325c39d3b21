-- What each function by length tests. Derived from the table: tools/keywords.py --write.
use Prim.Native.Nat.{ℕ}
use mathlib.Core.Path.{◌≡◌, refl}
use mathlib.Core.List.{List}
use mathlib.Core.Option.{some, none}
use Rattle.base.specs.Pick.{pick}
use Rattle.base.specs.Lists.{same}
use Rattle.megaco.specs.Bytes.{capitals}
use Rattle.megaco.specs.Keywords.{forms_of}
use Rattle.keywords.specs.Page.{long_of, short_of, token_at, spellings_of, first_of, sized, later, meaning_later}

pub letters_1_is : (w : List ℕ) → meaning_later 1 0 w
    ≡ pick (same (capitals w) (short_of (forms_of (token_at 0)))) (some (token_at 0))
    (pick (same (capitals w) (short_of (forms_of (token_at 4)))) (some (token_at 4))
    (pick (same (capitals w) (short_of (forms_of (token_at 10)))) (some (token_at 10))
    (pick (same (capitals w) (short_of (forms_of (token_at 11)))) (some (token_at 11))
    (pick (same (capitals w) (short_of (forms_of (token_at 13)))) (some (token_at 13)) (meaning_later 1 5 w)))))
unfolding pick meaning_later sized later spellings_of forms_of first_of long_of short_of token_at
letters_1_is w = refl

pub letters_1_from_5_is : (w : List ℕ) → meaning_later 1 5 w
    ≡ pick (same (capitals w) (short_of (forms_of (token_at 14)))) (some (token_at 14))
    (pick (same (capitals w) (short_of (forms_of (token_at 22)))) (some (token_at 22))
    (pick (same (capitals w) (short_of (forms_of (token_at 23)))) (some (token_at 23))
    (pick (same (capitals w) (short_of (forms_of (token_at 28)))) (some (token_at 28))
    (pick (same (capitals w) (short_of (forms_of (token_at 32)))) (some (token_at 32)) (meaning_later 1 10 w)))))
unfolding pick meaning_later sized later spellings_of forms_of first_of long_of short_of token_at
letters_1_from_5_is w = refl

pub letters_1_from_10_is : (w : List ℕ) → meaning_later 1 10 w
    ≡ pick (same (capitals w) (short_of (forms_of (token_at 33)))) (some (token_at 33)) none
unfolding pick meaning_later sized later spellings_of forms_of first_of long_of short_of token_at
letters_1_from_10_is w = refl

pub letters_2_is : (w : List ℕ) → meaning_later 2 0 w
    ≡ pick (same (capitals w) (short_of (forms_of (token_at 1)))) (some (token_at 1))
    (pick (same (capitals w) (short_of (forms_of (token_at 2)))) (some (token_at 2))
    (pick (same (capitals w) (short_of (forms_of (token_at 3)))) (some (token_at 3))
    (pick (same (capitals w) (short_of (forms_of (token_at 5)))) (some (token_at 5))
    (pick (same (capitals w) (short_of (forms_of (token_at 6)))) (some (token_at 6)) (meaning_later 2 5 w)))))
unfolding pick meaning_later sized later spellings_of forms_of first_of long_of short_of token_at
letters_2_is w = refl

pub letters_2_from_5_is : (w : List ℕ) → meaning_later 2 5 w
    ≡ pick (same (capitals w) (short_of (forms_of (token_at 7)))) (some (token_at 7))
    (pick (same (capitals w) (short_of (forms_of (token_at 8)))) (some (token_at 8))
    (pick (same (capitals w) (short_of (forms_of (token_at 9)))) (some (token_at 9))
    (pick (same (capitals w) (short_of (forms_of (token_at 12)))) (some (token_at 12))
    (pick (same (capitals w) (short_of (forms_of (token_at 15)))) (some (token_at 15)) (meaning_later 2 10 w)))))
unfolding pick meaning_later sized later spellings_of forms_of first_of long_of short_of token_at
letters_2_from_5_is w = refl

pub letters_2_from_10_is : (w : List ℕ) → meaning_later 2 10 w
    ≡ pick (same (capitals w) (short_of (forms_of (token_at 16)))) (some (token_at 16))
    (pick (same (capitals w) (short_of (forms_of (token_at 17)))) (some (token_at 17))
    (pick (same (capitals w) (short_of (forms_of (token_at 18)))) (some (token_at 18))
    (pick (same (capitals w) (short_of (forms_of (token_at 19)))) (some (token_at 19))
    (pick (same (capitals w) (short_of (forms_of (token_at 20)))) (some (token_at 20)) (meaning_later 2 15 w)))))
unfolding pick meaning_later sized later spellings_of forms_of first_of long_of short_of token_at
letters_2_from_10_is w = refl

pub letters_2_from_15_is : (w : List ℕ) → meaning_later 2 15 w
    ≡ pick (same (capitals w) (short_of (forms_of (token_at 21)))) (some (token_at 21))
    (pick (same (capitals w) (short_of (forms_of (token_at 24)))) (some (token_at 24))
    (pick (same (capitals w) (short_of (forms_of (token_at 25)))) (some (token_at 25))
    (pick (same (capitals w) (short_of (forms_of (token_at 26)))) (some (token_at 26))
    (pick (same (capitals w) (short_of (forms_of (token_at 27)))) (some (token_at 27)) (meaning_later 2 20 w)))))
unfolding pick meaning_later sized later spellings_of forms_of first_of long_of short_of token_at
letters_2_from_15_is w = refl

pub letters_2_from_20_is : (w : List ℕ) → meaning_later 2 20 w
    ≡ pick (same (capitals w) (short_of (forms_of (token_at 29)))) (some (token_at 29))
    (pick (same (capitals w) (short_of (forms_of (token_at 30)))) (some (token_at 30))
    (pick (same (capitals w) (short_of (forms_of (token_at 31)))) (some (token_at 31)) none))
unfolding pick meaning_later sized later spellings_of forms_of first_of long_of short_of token_at
letters_2_from_20_is w = refl

pub letters_3_is : (w : List ℕ) → meaning_later 3 0 w
    ≡ pick (same (capitals w) (long_of (forms_of (token_at 0)))) (some (token_at 0)) none
unfolding pick meaning_later sized later spellings_of forms_of first_of long_of short_of token_at
letters_3_is w = refl

pub letters_4_is : (w : List ℕ) → meaning_later 4 0 w
    ≡ pick (same (capitals w) (long_of (forms_of (token_at 15)))) (some (token_at 15))
    (pick (same (capitals w) (long_of (forms_of (token_at 17)))) (some (token_at 17))
    (pick (same (capitals w) (long_of (forms_of (token_at 30)))) (some (token_at 30)) none))
unfolding pick meaning_later sized later spellings_of forms_of first_of long_of short_of token_at
letters_4_is w = refl

pub letters_5_is : (w : List ℕ) → meaning_later 5 0 w
    ≡ pick (same (capitals w) (long_of (forms_of (token_at 1)))) (some (token_at 1))
    (pick (same (capitals w) (long_of (forms_of (token_at 6)))) (some (token_at 6))
    (pick (same (capitals w) (long_of (forms_of (token_at 10)))) (some (token_at 10))
    (pick (same (capitals w) (long_of (forms_of (token_at 13)))) (some (token_at 13))
    (pick (same (capitals w) (long_of (forms_of (token_at 23)))) (some (token_at 23)) none))))
unfolding pick meaning_later sized later spellings_of forms_of first_of long_of short_of token_at
letters_5_is w = refl

pub letters_6_is : (w : List ℕ) → meaning_later 6 0 w
    ≡ pick (same (capitals w) (long_of (forms_of (token_at 14)))) (some (token_at 14))
    (pick (same (capitals w) (long_of (forms_of (token_at 16)))) (some (token_at 16))
    (pick (same (capitals w) (long_of (forms_of (token_at 18)))) (some (token_at 18))
    (pick (same (capitals w) (long_of (forms_of (token_at 22)))) (some (token_at 22)) none)))
unfolding pick meaning_later sized later spellings_of forms_of first_of long_of short_of token_at
letters_6_is w = refl

pub letters_7_is : (w : List ℕ) → meaning_later 7 0 w
    ≡ pick (same (capitals w) (long_of (forms_of (token_at 3)))) (some (token_at 3))
    (pick (same (capitals w) (long_of (forms_of (token_at 4)))) (some (token_at 4))
    (pick (same (capitals w) (long_of (forms_of (token_at 8)))) (some (token_at 8)) none))
unfolding pick meaning_later sized later spellings_of forms_of first_of long_of short_of token_at
letters_7_is w = refl

pub letters_8_is : (w : List ℕ) → meaning_later 8 0 w
    ≡ pick (same (capitals w) (long_of (forms_of (token_at 7)))) (some (token_at 7))
    (pick (same (capitals w) (long_of (forms_of (token_at 12)))) (some (token_at 12))
    (pick (same (capitals w) (long_of (forms_of (token_at 20)))) (some (token_at 20))
    (pick (same (capitals w) (long_of (forms_of (token_at 24)))) (some (token_at 24))
    (pick (same (capitals w) (long_of (forms_of (token_at 28)))) (some (token_at 28)) (meaning_later 8 5 w)))))
unfolding pick meaning_later sized later spellings_of forms_of first_of long_of short_of token_at
letters_8_is w = refl

pub letters_8_from_5_is : (w : List ℕ) → meaning_later 8 5 w
    ≡ pick (same (capitals w) (long_of (forms_of (token_at 31)))) (some (token_at 31)) none
unfolding pick meaning_later sized later spellings_of forms_of first_of long_of short_of token_at
letters_8_from_5_is w = refl

pub letters_9_is : (w : List ℕ) → meaning_later 9 0 w
    ≡ pick (same (capitals w) (long_of (forms_of (token_at 5)))) (some (token_at 5))
    (pick (same (capitals w) (long_of (forms_of (token_at 9)))) (some (token_at 9)) none)
unfolding pick meaning_later sized later spellings_of forms_of first_of long_of short_of token_at
letters_9_is w = refl

pub letters_10_is : (w : List ℕ) → meaning_later 10 0 w
    ≡ pick (same (capitals w) (long_of (forms_of (token_at 2)))) (some (token_at 2))
    (pick (same (capitals w) (long_of (forms_of (token_at 27)))) (some (token_at 27)) none)
unfolding pick meaning_later sized later spellings_of forms_of first_of long_of short_of token_at
letters_10_is w = refl

pub letters_11_is : (w : List ℕ) → meaning_later 11 0 w
    ≡ pick (same (capitals w) (long_of (forms_of (token_at 21)))) (some (token_at 21))
    (pick (same (capitals w) (long_of (forms_of (token_at 25)))) (some (token_at 25))
    (pick (same (capitals w) (long_of (forms_of (token_at 32)))) (some (token_at 32)) none))
unfolding pick meaning_later sized later spellings_of forms_of first_of long_of short_of token_at
letters_11_is w = refl

pub letters_12_is : (w : List ℕ) → meaning_later 12 0 w
    ≡ pick (same (capitals w) (long_of (forms_of (token_at 11)))) (some (token_at 11))
    (pick (same (capitals w) (long_of (forms_of (token_at 19)))) (some (token_at 19)) none)
unfolding pick meaning_later sized later spellings_of forms_of first_of long_of short_of token_at
letters_12_is w = refl

pub letters_13_is : (w : List ℕ) → meaning_later 13 0 w
    ≡ pick (same (capitals w) (long_of (forms_of (token_at 26)))) (some (token_at 26)) none
unfolding pick meaning_later sized later spellings_of forms_of first_of long_of short_of token_at
letters_13_is w = refl

pub letters_16_is : (w : List ℕ) → meaning_later 16 0 w
    ≡ pick (same (capitals w) (long_of (forms_of (token_at 29)))) (some (token_at 29)) none
unfolding pick meaning_later sized later spellings_of forms_of first_of long_of short_of token_at
letters_16_is w = refl

pub letters_22_is : (w : List ℕ) → meaning_later 22 0 w
    ≡ pick (same (capitals w) (long_of (forms_of (token_at 33)))) (some (token_at 33)) none
unfolding pick meaning_later sized later spellings_of forms_of first_of long_of short_of token_at
letters_22_is w = refl
