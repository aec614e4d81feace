use Rattle.std.proofs.Common.{◌≡◌, ℕ, ◌<◌, ◌^◌, inl, inr, refl, true, arith}
use Rattle.std.proofs.lemmas.Bool.Decides.{leb_tells}
use Rattle.rv_decode.specs.Rows.{decode16_of, compressed_rows}
use Rattle.rv_words.specs.Words.{encode_of}
use Rattle.rv_words.specs.Candidates.{candidate_of}
use Rattle.rv_words.proofs.Table.{holds_from, holds_at, is_tried}

pub tried_0 : holds_from is_tried 0x0000 2048 ≡ true
unfolding is_tried decode16_of compressed_rows encode_of candidate_of
tried_0 = refl

pub tried_1 : holds_from is_tried 0x0800 2048 ≡ true
unfolding is_tried decode16_of compressed_rows encode_of candidate_of
tried_1 = refl

pub tried_2 : holds_from is_tried 0x1000 2048 ≡ true
unfolding is_tried decode16_of compressed_rows encode_of candidate_of
tried_2 = refl

pub tried_3 : holds_from is_tried 0x1800 2048 ≡ true
unfolding is_tried decode16_of compressed_rows encode_of candidate_of
tried_3 = refl

pub tried_4 : holds_from is_tried 0x2000 2048 ≡ true
unfolding is_tried decode16_of compressed_rows encode_of candidate_of
tried_4 = refl

pub tried_5 : holds_from is_tried 0x2800 2048 ≡ true
unfolding is_tried decode16_of compressed_rows encode_of candidate_of
tried_5 = refl

pub tried_6 : holds_from is_tried 0x3000 2048 ≡ true
unfolding is_tried decode16_of compressed_rows encode_of candidate_of
tried_6 = refl

pub tried_7 : holds_from is_tried 0x3800 2048 ≡ true
unfolding is_tried decode16_of compressed_rows encode_of candidate_of
tried_7 = refl

pub tried_8 : holds_from is_tried 0x4000 2048 ≡ true
unfolding is_tried decode16_of compressed_rows encode_of candidate_of
tried_8 = refl

pub tried_9 : holds_from is_tried 0x4800 2048 ≡ true
unfolding is_tried decode16_of compressed_rows encode_of candidate_of
tried_9 = refl

pub tried_10 : holds_from is_tried 0x5000 2048 ≡ true
unfolding is_tried decode16_of compressed_rows encode_of candidate_of
tried_10 = refl

pub tried_11 : holds_from is_tried 0x5800 2048 ≡ true
unfolding is_tried decode16_of compressed_rows encode_of candidate_of
tried_11 = refl

pub tried_12 : holds_from is_tried 0x6000 2048 ≡ true
unfolding is_tried decode16_of compressed_rows encode_of candidate_of
tried_12 = refl

pub tried_13 : holds_from is_tried 0x6800 2048 ≡ true
unfolding is_tried decode16_of compressed_rows encode_of candidate_of
tried_13 = refl

pub tried_14 : holds_from is_tried 0x7000 2048 ≡ true
unfolding is_tried decode16_of compressed_rows encode_of candidate_of
tried_14 = refl

pub tried_15 : holds_from is_tried 0x7800 2048 ≡ true
unfolding is_tried decode16_of compressed_rows encode_of candidate_of
tried_15 = refl

pub tried_16 : holds_from is_tried 0x8000 2048 ≡ true
unfolding is_tried decode16_of compressed_rows encode_of candidate_of
tried_16 = refl

pub tried_17 : holds_from is_tried 0x8800 2048 ≡ true
unfolding is_tried decode16_of compressed_rows encode_of candidate_of
tried_17 = refl

pub tried_18 : holds_from is_tried 0x9000 2048 ≡ true
unfolding is_tried decode16_of compressed_rows encode_of candidate_of
tried_18 = refl

pub tried_19 : holds_from is_tried 0x9800 2048 ≡ true
unfolding is_tried decode16_of compressed_rows encode_of candidate_of
tried_19 = refl

pub tried_20 : holds_from is_tried 0xa000 2048 ≡ true
unfolding is_tried decode16_of compressed_rows encode_of candidate_of
tried_20 = refl

pub tried_21 : holds_from is_tried 0xa800 2048 ≡ true
unfolding is_tried decode16_of compressed_rows encode_of candidate_of
tried_21 = refl

pub tried_22 : holds_from is_tried 0xb000 2048 ≡ true
unfolding is_tried decode16_of compressed_rows encode_of candidate_of
tried_22 = refl

pub tried_23 : holds_from is_tried 0xb800 2048 ≡ true
unfolding is_tried decode16_of compressed_rows encode_of candidate_of
tried_23 = refl

pub tried_24 : holds_from is_tried 0xc000 2048 ≡ true
unfolding is_tried decode16_of compressed_rows encode_of candidate_of
tried_24 = refl

pub tried_25 : holds_from is_tried 0xc800 2048 ≡ true
unfolding is_tried decode16_of compressed_rows encode_of candidate_of
tried_25 = refl

pub tried_26 : holds_from is_tried 0xd000 2048 ≡ true
unfolding is_tried decode16_of compressed_rows encode_of candidate_of
tried_26 = refl

pub tried_27 : holds_from is_tried 0xd800 2048 ≡ true
unfolding is_tried decode16_of compressed_rows encode_of candidate_of
tried_27 = refl

pub tried_28 : holds_from is_tried 0xe000 2048 ≡ true
unfolding is_tried decode16_of compressed_rows encode_of candidate_of
tried_28 = refl

pub tried_29 : holds_from is_tried 0xe800 2048 ≡ true
unfolding is_tried decode16_of compressed_rows encode_of candidate_of
tried_29 = refl

pub tried_30 : holds_from is_tried 0xf000 2048 ≡ true
unfolding is_tried decode16_of compressed_rows encode_of candidate_of
tried_30 = refl

pub tried_31 : holds_from is_tried 0xf800 2048 ≡ true
unfolding is_tried decode16_of compressed_rows encode_of candidate_of
tried_31 = refl

pub tried_below_0 : (h : ℕ) → h < 2048 → is_tried h ≡ true
tried_below_0 h l = holds_at is_tried 0 2048 h tried_0 (omega arith) (omega arith)

pub tried_below_1 : (h : ℕ) → h < 4096 → is_tried h ≡ true
tried_below_1 h l = elim (leb_tells 2048 h) [ inl q ↦ holds_at is_tried 2048 2048 h tried_1 (omega arith) (omega arith) | inr q ↦ tried_below_0 h q.1 ]

pub tried_below_2 : (h : ℕ) → h < 6144 → is_tried h ≡ true
tried_below_2 h l = elim (leb_tells 4096 h) [ inl q ↦ holds_at is_tried 4096 2048 h tried_2 (omega arith) (omega arith) | inr q ↦ tried_below_1 h q.1 ]

pub tried_below_3 : (h : ℕ) → h < 8192 → is_tried h ≡ true
tried_below_3 h l = elim (leb_tells 6144 h) [ inl q ↦ holds_at is_tried 6144 2048 h tried_3 (omega arith) (omega arith) | inr q ↦ tried_below_2 h q.1 ]

pub tried_below_4 : (h : ℕ) → h < 10240 → is_tried h ≡ true
tried_below_4 h l = elim (leb_tells 8192 h) [ inl q ↦ holds_at is_tried 8192 2048 h tried_4 (omega arith) (omega arith) | inr q ↦ tried_below_3 h q.1 ]

pub tried_below_5 : (h : ℕ) → h < 12288 → is_tried h ≡ true
tried_below_5 h l = elim (leb_tells 10240 h) [ inl q ↦ holds_at is_tried 10240 2048 h tried_5 (omega arith) (omega arith) | inr q ↦ tried_below_4 h q.1 ]

pub tried_below_6 : (h : ℕ) → h < 14336 → is_tried h ≡ true
tried_below_6 h l = elim (leb_tells 12288 h) [ inl q ↦ holds_at is_tried 12288 2048 h tried_6 (omega arith) (omega arith) | inr q ↦ tried_below_5 h q.1 ]

pub tried_below_7 : (h : ℕ) → h < 16384 → is_tried h ≡ true
tried_below_7 h l = elim (leb_tells 14336 h) [ inl q ↦ holds_at is_tried 14336 2048 h tried_7 (omega arith) (omega arith) | inr q ↦ tried_below_6 h q.1 ]

pub tried_below_8 : (h : ℕ) → h < 18432 → is_tried h ≡ true
tried_below_8 h l = elim (leb_tells 16384 h) [ inl q ↦ holds_at is_tried 16384 2048 h tried_8 (omega arith) (omega arith) | inr q ↦ tried_below_7 h q.1 ]

pub tried_below_9 : (h : ℕ) → h < 20480 → is_tried h ≡ true
tried_below_9 h l = elim (leb_tells 18432 h) [ inl q ↦ holds_at is_tried 18432 2048 h tried_9 (omega arith) (omega arith) | inr q ↦ tried_below_8 h q.1 ]

pub tried_below_10 : (h : ℕ) → h < 22528 → is_tried h ≡ true
tried_below_10 h l = elim (leb_tells 20480 h) [ inl q ↦ holds_at is_tried 20480 2048 h tried_10 (omega arith) (omega arith) | inr q ↦ tried_below_9 h q.1 ]

pub tried_below_11 : (h : ℕ) → h < 24576 → is_tried h ≡ true
tried_below_11 h l = elim (leb_tells 22528 h) [ inl q ↦ holds_at is_tried 22528 2048 h tried_11 (omega arith) (omega arith) | inr q ↦ tried_below_10 h q.1 ]

pub tried_below_12 : (h : ℕ) → h < 26624 → is_tried h ≡ true
tried_below_12 h l = elim (leb_tells 24576 h) [ inl q ↦ holds_at is_tried 24576 2048 h tried_12 (omega arith) (omega arith) | inr q ↦ tried_below_11 h q.1 ]

pub tried_below_13 : (h : ℕ) → h < 28672 → is_tried h ≡ true
tried_below_13 h l = elim (leb_tells 26624 h) [ inl q ↦ holds_at is_tried 26624 2048 h tried_13 (omega arith) (omega arith) | inr q ↦ tried_below_12 h q.1 ]

pub tried_below_14 : (h : ℕ) → h < 30720 → is_tried h ≡ true
tried_below_14 h l = elim (leb_tells 28672 h) [ inl q ↦ holds_at is_tried 28672 2048 h tried_14 (omega arith) (omega arith) | inr q ↦ tried_below_13 h q.1 ]

pub tried_below_15 : (h : ℕ) → h < 32768 → is_tried h ≡ true
tried_below_15 h l = elim (leb_tells 30720 h) [ inl q ↦ holds_at is_tried 30720 2048 h tried_15 (omega arith) (omega arith) | inr q ↦ tried_below_14 h q.1 ]

pub tried_below_16 : (h : ℕ) → h < 34816 → is_tried h ≡ true
tried_below_16 h l = elim (leb_tells 32768 h) [ inl q ↦ holds_at is_tried 32768 2048 h tried_16 (omega arith) (omega arith) | inr q ↦ tried_below_15 h q.1 ]

pub tried_below_17 : (h : ℕ) → h < 36864 → is_tried h ≡ true
tried_below_17 h l = elim (leb_tells 34816 h) [ inl q ↦ holds_at is_tried 34816 2048 h tried_17 (omega arith) (omega arith) | inr q ↦ tried_below_16 h q.1 ]

pub tried_below_18 : (h : ℕ) → h < 38912 → is_tried h ≡ true
tried_below_18 h l = elim (leb_tells 36864 h) [ inl q ↦ holds_at is_tried 36864 2048 h tried_18 (omega arith) (omega arith) | inr q ↦ tried_below_17 h q.1 ]

pub tried_below_19 : (h : ℕ) → h < 40960 → is_tried h ≡ true
tried_below_19 h l = elim (leb_tells 38912 h) [ inl q ↦ holds_at is_tried 38912 2048 h tried_19 (omega arith) (omega arith) | inr q ↦ tried_below_18 h q.1 ]

pub tried_below_20 : (h : ℕ) → h < 43008 → is_tried h ≡ true
tried_below_20 h l = elim (leb_tells 40960 h) [ inl q ↦ holds_at is_tried 40960 2048 h tried_20 (omega arith) (omega arith) | inr q ↦ tried_below_19 h q.1 ]

pub tried_below_21 : (h : ℕ) → h < 45056 → is_tried h ≡ true
tried_below_21 h l = elim (leb_tells 43008 h) [ inl q ↦ holds_at is_tried 43008 2048 h tried_21 (omega arith) (omega arith) | inr q ↦ tried_below_20 h q.1 ]

pub tried_below_22 : (h : ℕ) → h < 47104 → is_tried h ≡ true
tried_below_22 h l = elim (leb_tells 45056 h) [ inl q ↦ holds_at is_tried 45056 2048 h tried_22 (omega arith) (omega arith) | inr q ↦ tried_below_21 h q.1 ]

pub tried_below_23 : (h : ℕ) → h < 49152 → is_tried h ≡ true
tried_below_23 h l = elim (leb_tells 47104 h) [ inl q ↦ holds_at is_tried 47104 2048 h tried_23 (omega arith) (omega arith) | inr q ↦ tried_below_22 h q.1 ]

pub tried_below_24 : (h : ℕ) → h < 51200 → is_tried h ≡ true
tried_below_24 h l = elim (leb_tells 49152 h) [ inl q ↦ holds_at is_tried 49152 2048 h tried_24 (omega arith) (omega arith) | inr q ↦ tried_below_23 h q.1 ]

pub tried_below_25 : (h : ℕ) → h < 53248 → is_tried h ≡ true
tried_below_25 h l = elim (leb_tells 51200 h) [ inl q ↦ holds_at is_tried 51200 2048 h tried_25 (omega arith) (omega arith) | inr q ↦ tried_below_24 h q.1 ]

pub tried_below_26 : (h : ℕ) → h < 55296 → is_tried h ≡ true
tried_below_26 h l = elim (leb_tells 53248 h) [ inl q ↦ holds_at is_tried 53248 2048 h tried_26 (omega arith) (omega arith) | inr q ↦ tried_below_25 h q.1 ]

pub tried_below_27 : (h : ℕ) → h < 57344 → is_tried h ≡ true
tried_below_27 h l = elim (leb_tells 55296 h) [ inl q ↦ holds_at is_tried 55296 2048 h tried_27 (omega arith) (omega arith) | inr q ↦ tried_below_26 h q.1 ]

pub tried_below_28 : (h : ℕ) → h < 59392 → is_tried h ≡ true
tried_below_28 h l = elim (leb_tells 57344 h) [ inl q ↦ holds_at is_tried 57344 2048 h tried_28 (omega arith) (omega arith) | inr q ↦ tried_below_27 h q.1 ]

pub tried_below_29 : (h : ℕ) → h < 61440 → is_tried h ≡ true
tried_below_29 h l = elim (leb_tells 59392 h) [ inl q ↦ holds_at is_tried 59392 2048 h tried_29 (omega arith) (omega arith) | inr q ↦ tried_below_28 h q.1 ]

pub tried_below_30 : (h : ℕ) → h < 63488 → is_tried h ≡ true
tried_below_30 h l = elim (leb_tells 61440 h) [ inl q ↦ holds_at is_tried 61440 2048 h tried_30 (omega arith) (omega arith) | inr q ↦ tried_below_29 h q.1 ]

pub tried_below_31 : (h : ℕ) → h < 65536 → is_tried h ≡ true
tried_below_31 h l = elim (leb_tells 63488 h) [ inl q ↦ holds_at is_tried 63488 2048 h tried_31 (omega arith) (omega arith) | inr q ↦ tried_below_30 h q.1 ]

pub all_tried : (h : ℕ) → h < 2 ^ 16 → is_tried h ≡ true
all_tried h l = tried_below_31 h l
