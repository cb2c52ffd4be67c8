-- The laws of the chains.
-- Key idea: between one place of a chain and the next no number has the chain's remainder. So a search that goes down one chain has looked at every number
-- that could be the one, and needs no induction over the chain: the number is not at the place reached or past it.
use Rattle.std.specs.Prelude.{◌≡◌, ◌⊎◌, true, false, List, ℕ, ◌+◌, ◌-◌, ◌%◌, ◌≤◌, ◌<◌, length, get_or, set, take, replicate}
use Rattle.std.proofs.Common.{sym, ap, subst, ◌∙◌, ⊎_elim, inl, inr, arith, eq-or-lt_of_le, mod-lt, length-set, get_or-set_same, get_or-set_other, get_or-take, length-take-le}
use Rattle.std.proofs.Math.Decide.{ℕ_discrete, dec_le}
use Rattle.std.proofs.lemmas.List.{length-replicate, get_or-replicate}
use Rattle.lists.specs.Lists.{member}
use Rattle.lists.specs.Members.{member_at, member_nowhere}
use Rattle.loaders.specs.Chains.{chains, From, Linked}

-- every number belongs to a chain
pub chain_of : (k : ℕ) → k % chains < chains
chain_of k = mod-lt k {m = chains} (omega arith)

-- ---- the first n numbers
module _ (k : ℕ) (ks : List ℕ) (n : ℕ) (h : n ≤ length ks) where
  pub among : (i : ℕ) → i < n → get_or ks i 0 ≡ k → member k (take n ks) ≡ true
  among i l e = member_at k (take n ks) i (omega (arith, length-take-le n ks h)) (get_or-take n ks i 0 l ∙ e)

  pub not_among : ((i : ℕ) → i < n → get_or ks i 0 ≡ k → ⊥) → member k (take n ks) ≡ false
  not_among f =
      member_nowhere k (take n ks)
      (λ i l e. let m : i < n = omega (arith, length-take-le n ks h) in f i m (sym (get_or-take n ks i 0 m) ∙ e))

-- ---- down the chain of k: it has come to place p, and of the first n numbers k is not at p or past it
pub record Sought (ks : List ℕ) (n k p : ℕ) : Type 0 where
  pub most : p ≤ n
  pub own : 0 < p → get_or ks (p - 1) 0 % chains ≡ k % chains
  pub past : (i : ℕ) → p ≤ i → i < n → get_or ks i 0 ≡ k → ⊥

module _ (ks heads nexts : List ℕ) (n k : ℕ) (L : Linked ks n heads nexts) where
  pub sought_head : Sought ks n k (get_or heads (k % chains) 0)
  sought_head =
      let f = L.head (k % chains) (chain_of k) in
      record { most = f.most; own = f.own; past = λ i l m e. f.others i l m (ap (λ (x : ℕ). x % chains) e) }

  module _ (p : ℕ) (hp : 0 < p) (S : Sought ks n k p) (other : get_or ks (p - 1) 0 ≡ k → ⊥) where
    abbrev q : ℕ
    q = get_or nexts (p - 1) 0

    from : From ks (p - 1) (get_or ks (p - 1) 0 % chains) q
    from = L.next (p - 1) (omega (arith, S.most))

    past_next : (i : ℕ) → q ≤ i → i < n → get_or ks i 0 ≡ k → ⊥
    past_next i l m e =
        elim (ℕ_discrete i (p - 1)) [
          | yes s ↦ other (ap (λ (j : ℕ). get_or ks j 0) (sym s) ∙ e)
          | no ne ↦ ⊎_elim (λ (g : p ≤ i). S.past i g m e) (λ (g : i < p - 1). from.others i l g (ap (λ (x : ℕ). x % chains) e ∙ sym (S.own hp)))
              (side i ne)
        ]
      where
        side : (i : ℕ) → (i ≡ p - 1 → ⊥) → (p ≤ i) ⊎ (i < p - 1)
        side i ne = elim (dec_le p i) [ yes g ↦ inl g | no g ↦ inr (omega arith) ]

    pub falls : q < p
    falls = omega (arith, from.most)

    pub sought_next : Sought ks n k q
    sought_next = record { most = omega (arith, from.most, S.most); own = λ h. from.own h ∙ S.own hp; past = past_next }

-- ---- one number more
module _ (ks heads nexts : List ℕ) (n : ℕ) (L : Linked ks n heads nexts) (room : n < length nexts) where
  abbrev b : ℕ
  b = get_or ks n 0 % chains

  abbrev heads' : List ℕ
  heads' = set heads b (n + 1)

  abbrev nexts' : List ℕ
  nexts' = set nexts n (get_or heads b 0)

  -- the number's own chain begins with it, and the others as before
  head_more : (c : ℕ) → c < chains → From ks (n + 1) c (get_or heads' c 0)
  head_more c hc =
      elim (ℕ_discrete c b) [
        | yes e ↦
            let here = ap (λ (x : ℕ). get_or heads' x 0) e ∙ get_or-set_same heads b (n + 1) 0 (omega (arith, L.wide, chain_of (get_or ks n 0))) in
            subst (From ks (n + 1) c) (sym here) (record {
              most = omega arith;
              own = λ h. let z : n + 1 - 1 ≡ n = omega arith in ap (λ (x : ℕ). get_or ks x 0 % chains) z ∙ sym e;
              others = λ i l m. absurd (omega arith);
            })
        | no ne ↦ subst (From ks (n + 1) c) (sym (get_or-set_other heads b c (n + 1) 0 ne)) (let f = L.head c hc in record {
          most = omega (arith, f.most);
          own = f.own;
          others = λ i l m r.
              ⊎_elim (λ (s : i ≡ n). ne (sym r ∙ ap (λ (x : ℕ). get_or ks x 0 % chains) s)) (λ s. f.others i l s r) (eq-or-lt_of_le (omega arith));
        })
      ]

  -- it goes on where its chain began
  next_more : (j : ℕ) → j < n + 1 → From ks j (get_or ks j 0 % chains) (get_or nexts' j 0)
  next_more j hj =
      ⊎_elim
      (λ (e : j ≡ n). subst (From ks j (get_or ks j 0 % chains)) (sym (ap (λ (x : ℕ). get_or nexts' x 0) e ∙ get_or-set_same nexts n (get_or heads b 0) 0 room))
      (subst (λ (x : ℕ). From ks x (get_or ks x 0 % chains) (get_or heads b 0)) (sym e) (L.head b (chain_of (get_or ks n 0)))))
      (λ l. subst (From ks j (get_or ks j 0 % chains)) (sym (get_or-set_other nexts n j (get_or heads b 0) 0 (omega arith))) (L.next j l))
      (eq-or-lt_of_le (omega arith))

  pub linked_more : Linked ks (n + 1) heads' nexts'
  linked_more = record { wide = length-set heads b (n + 1) ∙ L.wide; head = head_more; next = next_more }

-- ---- the chains look at the first n numbers alone, so one more may be written behind them before it is put in front of its chain
module _ (ks heads nexts : List ℕ) (n k : ℕ) (L : Linked ks n heads nexts) where
  same_before : (i : ℕ) → i < n → get_or (set ks n k) i 0 % chains ≡ get_or ks i 0 % chains
  same_before i h = ap (λ (x : ℕ). x % chains) (get_or-set_other ks n i k 0 (omega arith))

  from_same : (m b p : ℕ) → m ≤ n → From ks m b p → From (set ks n k) m b p
  from_same m b p h f = record {
    most = f.most;
    own = λ l. same_before (p - 1) (omega (arith, f.most)) ∙ f.own l;
    others = λ i l g e. f.others i l g (sym (same_before i (omega arith)) ∙ e);
  }

  linked_same : Linked (set ks n k) n heads nexts
  linked_same = record {
    wide = L.wide;
    head = λ b h. from_same n b (get_or heads b 0) (omega arith) (L.head b h);
    next = λ j h. subst (λ (b : ℕ). From (set ks n k) j b (get_or nexts j 0)) (sym (same_before j h))
        (from_same j (get_or ks j 0 % chains) (get_or nexts j 0) (omega arith) (L.next j h));
  }

  pub linked_written : n < length ks → n < length nexts
      → Linked (set ks n k) (n + 1) (set heads (k % chains) (n + 1)) (set nexts n (get_or heads (k % chains) 0))
  linked_written a b =
      subst (λ (x : ℕ). Linked (set ks n k) (n + 1) (set heads (x % chains) (n + 1)) (set nexts n (get_or heads (x % chains) 0)))
      (get_or-set_same ks n k 0 a) (linked_more (set ks n k) heads nexts n linked_same b)

-- ---- no number yet: the arrays are as they were made
pub linked_none : (ks nexts : List ℕ) → Linked ks 0 (replicate chains 0) nexts
linked_none ks nexts = record {
  wide = length-replicate {A = ℕ} chains 0;
  head = λ b h.
      let z = get_or-replicate {A = ℕ} chains b 0 0 h in
      record { most = omega arith; own = λ l. absurd (omega arith); others = λ i l m. absurd (omega arith) };
  next = λ j h. absurd (omega arith);
}
