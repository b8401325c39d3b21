-- RTP statistics (document 02, CR 12): "Each ephemeral has a block that the RTP card updates at each packet". The 64 blocks are lent as 256 words
-- of 32 bits, four a block: packets, transit, the jitter's low half, its high half. That of `R/n` is block n − 1.
use Rattle.std.specs.Prelude.{ℕ, zero, suc, ◌+◌, ◌*◌, ◌-◌, ◌/◌, ◌%◌, ◌^◌, Bool, true, false, ◌&&◌, List, [], ◌∷◌, length, get_or, set, ltb, leb, eqb}
use Rattle.base.specs.Pick.{pick}
use Rattle.megaco.specs.Table.{ephemerals}
use Rattle.megaco.specs.declared.Block.{Block}

-- ---- blocks in the lent words
abbrev pub block_words : ℕ
block_words = 4 * ephemerals

unfoldable pub block_at : ℕ → List ℕ → Block
block_at k b = record { packets = get_or b (4 * k) 0; transit = get_or b (4 * k + 1) 0; jitter = get_or b (4 * k + 2) 0 + 2 ^ 32 * get_or b (4 * k + 3) 0 }

unfoldable pub with_block : ℕ → Block → List ℕ → List ℕ
with_block k x b = set (set (set (set b (4 * k) x.packets) (4 * k + 1) x.transit) (4 * k + 2) (x.jitter % 2 ^ 32)) (4 * k + 3) (x.jitter / 2 ^ 32)

abbrev pub no_packets : Block
no_packets = record { packets = 0; transit = 0; jitter = 0 }

-- "a new ephemeral starts at zero": the blocks with some of them at zero
unfoldable pub cleared : List ℕ → List ℕ → List ℕ
cleared [] b = b
cleared (k ∷ ks) b = cleared ks (with_block k no_packets b)

-- ---- a packet
-- "transit differences are taken modulo 2^32": a less b
unfoldable pub difference : ℕ → ℕ → ℕ
difference a b = (a + 2 ^ 32 - b) % 2 ^ 32

-- "and read as signed, their size d"
unfoldable pub size_of : ℕ → ℕ
size_of d = pick (ltb d (2 ^ 31)) d (2 ^ 32 - d)

-- "J becomes J + d − floor((J + 8) / 16)"
unfoldable pub jitter_after : ℕ → ℕ → ℕ
jitter_after j d = j + d - (j + 8) / 16

-- "packets received, held at 4294967295"
unfoldable pub one_more : ℕ → ℕ
one_more n = pick (ltb n 4294967295) (n + 1) n

-- "J never passes 2^35"
abbrev pub most_jitter : ℕ
most_jitter = 2 ^ 35

-- "The first packet sets the transit and leaves J at 0"; a block with J over 2^35 stays as it is
unfoldable pub updated : Block → ℕ → ℕ → Block
updated x arrival stamp =
    let t = difference arrival stamp in
    pick (ltb most_jitter x.jitter) x
    (pick (eqb x.packets 0)
    (record { packets = 1; transit = t; jitter = 0 })
    (record { packets = one_more x.packets; transit = t; jitter = jitter_after x.jitter (size_of (difference t x.transit)) }))

-- "the report is floor(J / 16)"
unfoldable pub reported : Block → ℕ
reported x = x.jitter / 16

-- ---- soundness
-- not sound: "one with J over 2^35 or with no packets and not zero"
unfoldable pub block_is_sound : Block → Bool
block_is_sound x = leb x.jitter most_jitter && pick (eqb x.packets 0) (eqb x.transit 0 && eqb x.jitter 0) true

-- n blocks from block k on
unfoldable pub sound_from : ℕ → ℕ → List ℕ → Bool
sound_from zero k b = true
sound_from (suc n) k b = let r = sound_from n (k + 1) b in pick (block_is_sound (block_at k b)) r false

-- "2 also for other than 64 blocks"
unfoldable pub blocks_are_sound : List ℕ → Bool
blocks_are_sound b = eqb (length b) block_words && sound_from ephemerals 0 b
