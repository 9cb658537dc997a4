-- A normal form for polynomials over ℤ: two expressions with one normal form have one value at every environment.
use Rattle.std.proofs.Common.{◌≡◌, ℕ, zero, suc, Bool, true, false, cond, eqb, ltb, leb, List, [], ◌∷◌, ℤ, pos, negsuc, ◌*◌, ◌+ℤ◌, ◌*ℤ◌, neg_ℤ, refl, sym, ap, subst, ◌∙◌, arith, eqb→eq, T}
use Rattle.std.proofs.lemmas.Int.{ints}
use borrow.Author.Differences.{up, down, sum_is_lem, neg_is, product_is}

-- ---- the laws of ℤ that std lacks
pub *ℤ_assoc : (a b c : ℤ) → (a *ℤ b) *ℤ c ≡ a *ℤ (b *ℤ c)
*ℤ_assoc a b c =
    let p = product_is a b in
    let q = product_is b c in
    omega (arith, ints, ap (λ x. x * up c) p.0, ap (λ x. x * down c) p.0, ap (λ x. x * up c) p.1, ap (λ x. x * down c) p.1, ap (λ x. up a * x) q.0, ap (λ x. down a * x) q.0, ap (λ x. up a * x) q.1, ap (λ x. down a * x) q.1)

pub *ℤ_comm : (a b : ℤ) → a *ℤ b ≡ b *ℤ a
*ℤ_comm a b = omega (arith, ints)

pub *ℤ-+ℤ : (a b c : ℤ) → a *ℤ (b +ℤ c) ≡ a *ℤ b +ℤ a *ℤ c
*ℤ-+ℤ a b c =
    let e = sum_is_lem b c in
    omega (arith, ints, ap (λ x. up a * x) e, ap (λ x. down a * x) e)

pub +ℤ-*ℤ : (a b c : ℤ) → (a +ℤ b) *ℤ c ≡ a *ℤ c +ℤ b *ℤ c
+ℤ-*ℤ a b c = *ℤ_comm (a +ℤ b) c ∙ *ℤ-+ℤ c a b ∙ ap (λ x. x +ℤ c *ℤ b) (*ℤ_comm c a) ∙ ap (λ x. a *ℤ c +ℤ x) (*ℤ_comm c b)

pub neg_ℤ-*ℤ : (a b : ℤ) → neg_ℤ a *ℤ b ≡ neg_ℤ (a *ℤ b)
neg_ℤ-*ℤ a b =
    let e = neg_is a in
    omega (arith, ints, ap (λ x. x * up b) e.0, ap (λ x. x * down b) e.0, ap (λ x. x * up b) e.1, ap (λ x. x * down b) e.1)

-- ---- expressions
infixl 6 ◌⊕◌ ◌⊖◌
infixl 7 ◌⊗◌
pub data Expr : Type 0 where
  var : ℕ → Expr
  con : ℤ → Expr
  neg : Expr → Expr
  ◌⊕◌ : Expr → Expr → Expr
  ◌⊗◌ : Expr → Expr → Expr

abbrev pub ◌⊖◌ : Expr → Expr → Expr
a ⊖ b = a ⊕ neg b

abbrev pub value_at : List ℤ → ℕ → ℤ
value_at [] n = pos 0
value_at (x ∷ xs) zero = x
value_at (x ∷ xs) (suc n) = value_at xs n

abbrev pub eval : List ℤ → Expr → ℤ
eval xs (var n) = value_at xs n
eval xs (con c) = c
eval xs (neg a) = neg_ℤ (eval xs a)
eval xs (a ⊕ b) = eval xs a +ℤ eval xs b
eval xs (a ⊗ b) = eval xs a *ℤ eval xs b

-- ---- polynomials: a term is a coefficient and its variables in order
pub data Poly : Type 0 where
  nil : Poly
  term : ℤ → List ℕ → Poly → Poly

abbrev pub eval_vars : List ℤ → List ℕ → ℤ
eval_vars xs [] = pos 1
eval_vars xs (v ∷ m) = value_at xs v *ℤ eval_vars xs m

abbrev pub eval_poly : List ℤ → Poly → ℤ
eval_poly xs nil = pos 0
eval_poly xs (term c m p) = c *ℤ eval_vars xs m +ℤ eval_poly xs p

abbrev pub insert_var : ℕ → List ℕ → List ℕ
insert_var v [] = v ∷ []
insert_var v (w ∷ m) = cond (leb v w) (v ∷ (w ∷ m)) (w ∷ insert_var v m)

abbrev pub mul_vars : List ℕ → List ℕ → List ℕ
mul_vars [] n = n
mul_vars (v ∷ m) n = insert_var v (mul_vars m n)

abbrev pub same_vars : List ℕ → List ℕ → Bool
same_vars [] [] = true
same_vars [] (y ∷ ys) = false
same_vars (x ∷ xs) [] = false
same_vars (x ∷ xs) (y ∷ ys) = cond (eqb x y) (same_vars xs ys) false

abbrev pub vars_below : List ℕ → List ℕ → Bool
vars_below [] [] = false
vars_below [] (y ∷ ys) = true
vars_below (x ∷ xs) [] = false
vars_below (x ∷ xs) (y ∷ ys) = cond (eqb x y) (vars_below xs ys) (ltb x y)

abbrev pub put : ℤ → List ℕ → Poly → Poly
put (pos zero) m p = p
put (pos (suc n)) m p = term (pos (suc n)) m p
put (negsuc n) m p = term (negsuc n) m p

abbrev pub insert_term : ℤ → List ℕ → Poly → Poly
insert_term c m nil = put c m nil
insert_term c m (term d n p) = cond (same_vars m n) (put (c +ℤ d) n p) (cond (vars_below m n) (put c m (term d n p)) (term d n (insert_term c m p)))

abbrev pub add_poly : Poly → Poly → Poly
add_poly nil q = q
add_poly (term c m p) q = insert_term c m (add_poly p q)

abbrev pub scale_poly : ℤ → List ℕ → Poly → Poly
scale_poly c m nil = nil
scale_poly c m (term d n q) = insert_term (c *ℤ d) (mul_vars m n) (scale_poly c m q)

abbrev pub mul_poly : Poly → Poly → Poly
mul_poly nil q = nil
mul_poly (term c m p) q = add_poly (scale_poly c m q) (mul_poly p q)

abbrev pub neg_poly : Poly → Poly
neg_poly nil = nil
neg_poly (term c m p) = term (neg_ℤ c) m (neg_poly p)

abbrev pub norm : Expr → Poly
norm (var v) = term (pos 1) (v ∷ []) nil
norm (con c) = put c [] nil
norm (neg a) = neg_poly (norm a)
norm (a ⊕ b) = add_poly (norm a) (norm b)
norm (a ⊗ b) = mul_poly (norm a) (norm b)

-- ---- soundness
cond_case : {A : Type 0} (P : A → Type 0) (b : Bool) (x y : A) → (b ≡ true → P x) → (b ≡ false → P y) → P (cond b x y)
cond_case P true x y f g = f refl
cond_case P false x y f g = g refl

same_vars-eq : (m n : List ℕ) → same_vars m n ≡ true → m ≡ n
same_vars-eq [] [] e = refl
same_vars-eq [] (y ∷ ys) e = cc
same_vars-eq (x ∷ xs) [] e = cc
same_vars-eq (x ∷ xs) (y ∷ ys) e = by (same_vars-eq xs ys) (eqb x y) refl e
  where
    by : (same_vars xs ys ≡ true → xs ≡ ys) → (b : Bool) → eqb x y ≡ b → cond b (same_vars xs ys) false ≡ true → x ∷ xs ≡ y ∷ ys
    by rest true h e = let p : x ≡ y = eqb→eq x y (subst T (sym h) tt) in let q = rest e in cc
    by rest false h e = cc

swap : (a b c : ℤ) → a *ℤ (b *ℤ c) ≡ b *ℤ (a *ℤ c)
swap a b c = sym (*ℤ_assoc a b c) ∙ ap (λ x. x *ℤ c) (*ℤ_comm a b) ∙ *ℤ_assoc b a c

insert_var-ok : (xs : List ℤ) (v : ℕ) (m : List ℕ) → eval_vars xs (insert_var v m) ≡ value_at xs v *ℤ eval_vars xs m
insert_var-ok xs v [] = refl
insert_var-ok xs v (w ∷ m) = cond_case (λ z. eval_vars xs z ≡ value_at xs v *ℤ (value_at xs w *ℤ eval_vars xs m)) (leb v w) (v ∷ (w ∷ m)) (w ∷ insert_var v m)
    (λ _. refl)
    (λ _. ap (λ z. value_at xs w *ℤ z) (insert_var-ok xs v m) ∙ swap (value_at xs w) (value_at xs v) (eval_vars xs m))

one_*ℤ : (a : ℤ) → pos 1 *ℤ a ≡ a
one_*ℤ a = omega (arith, ints)

mul_vars-ok : (xs : List ℤ) (m n : List ℕ) → eval_vars xs (mul_vars m n) ≡ eval_vars xs m *ℤ eval_vars xs n
mul_vars-ok xs [] n = sym (one_*ℤ (eval_vars xs n))
mul_vars-ok xs (v ∷ m) n = insert_var-ok xs v (mul_vars m n) ∙ ap (λ z. value_at xs v *ℤ z) (mul_vars-ok xs m n) ∙ sym (*ℤ_assoc (value_at xs v) (eval_vars xs m) (eval_vars xs n))

zero_term : (a b : ℤ) → b ≡ pos 0 *ℤ a +ℤ b
zero_term a b = omega (arith, ints)

put-ok : (xs : List ℤ) (c : ℤ) (m : List ℕ) (p : Poly) → eval_poly xs (put c m p) ≡ c *ℤ eval_vars xs m +ℤ eval_poly xs p
put-ok xs (pos zero) m p = zero_term (eval_vars xs m) (eval_poly xs p)
put-ok xs (pos (suc n)) m p = refl
put-ok xs (negsuc n) m p = refl

joined : (c d m p : ℤ) → (c +ℤ d) *ℤ m +ℤ p ≡ c *ℤ m +ℤ (d *ℤ m +ℤ p)
joined c d m p = omega (arith, ints, +ℤ-*ℤ c d m)

moved : (a b c : ℤ) → b +ℤ (a +ℤ c) ≡ a +ℤ (b +ℤ c)
moved a b c = omega (arith, ints)

insert_term-ok : (xs : List ℤ) (c : ℤ) (m : List ℕ) (p : Poly) → eval_poly xs (insert_term c m p) ≡ c *ℤ eval_vars xs m +ℤ eval_poly xs p
insert_term-ok xs c m nil = put-ok xs c m nil
insert_term-ok xs c m (term d n p) = cond_case (λ z. eval_poly xs z ≡ c *ℤ eval_vars xs m +ℤ (d *ℤ eval_vars xs n +ℤ eval_poly xs p)) (same_vars m n) (put (c +ℤ d) n p) (cond (vars_below m n) (put c m (term d n p)) (term d n (insert_term c m p)))
    (λ e. put-ok xs (c +ℤ d) n p ∙ joined c d (eval_vars xs n) (eval_poly xs p) ∙ ap (λ (k : List ℕ). c *ℤ eval_vars xs k +ℤ (d *ℤ eval_vars xs n +ℤ eval_poly xs p)) (sym (same_vars-eq m n e)))
    (λ _. cond_case (λ z. eval_poly xs z ≡ c *ℤ eval_vars xs m +ℤ (d *ℤ eval_vars xs n +ℤ eval_poly xs p)) (vars_below m n) (put c m (term d n p)) (term d n (insert_term c m p))
    (λ _. put-ok xs c m (term d n p))
    (λ _. ap (λ z. d *ℤ eval_vars xs n +ℤ z) (insert_term-ok xs c m p) ∙ moved (c *ℤ eval_vars xs m) (d *ℤ eval_vars xs n) (eval_poly xs p)))

zero_+ℤ : (a : ℤ) → a ≡ pos 0 +ℤ a
zero_+ℤ a = omega (arith, ints)

add_poly-ok : (xs : List ℤ) (p q : Poly) → eval_poly xs (add_poly p q) ≡ eval_poly xs p +ℤ eval_poly xs q
add_poly-ok xs nil q = zero_+ℤ (eval_poly xs q)
add_poly-ok xs (term c m p) q = insert_term-ok xs c m (add_poly p q) ∙ ap (λ z. c *ℤ eval_vars xs m +ℤ z) (add_poly-ok xs p q) ∙ grouped (c *ℤ eval_vars xs m) (eval_poly xs p) (eval_poly xs q)
  where
    grouped : (a b c : ℤ) → a +ℤ (b +ℤ c) ≡ a +ℤ b +ℤ c
    grouped a b c = omega (arith, ints)

scaled : (c m d n q : ℤ) → (c *ℤ d) *ℤ (m *ℤ n) +ℤ (c *ℤ m) *ℤ q ≡ (c *ℤ m) *ℤ (d *ℤ n +ℤ q)
scaled c m d n q =
    let e = *ℤ_assoc c d (m *ℤ n) ∙ ap (λ x. c *ℤ x) (swap d m n) ∙ sym (*ℤ_assoc c m (d *ℤ n)) in
    ap (λ x. x +ℤ (c *ℤ m) *ℤ q) e ∙ sym (*ℤ-+ℤ (c *ℤ m) (d *ℤ n) q)

times_zero : (a : ℤ) → pos 0 ≡ a *ℤ pos 0
times_zero a = omega (arith, ints)

scale_poly-ok : (xs : List ℤ) (c : ℤ) (m : List ℕ) (q : Poly) → eval_poly xs (scale_poly c m q) ≡ (c *ℤ eval_vars xs m) *ℤ eval_poly xs q
scale_poly-ok xs c m nil = times_zero (c *ℤ eval_vars xs m)
scale_poly-ok xs c m (term d n q) =
    insert_term-ok xs (c *ℤ d) (mul_vars m n) (scale_poly c m q)
    ∙ ap (λ z. (c *ℤ d) *ℤ z +ℤ eval_poly xs (scale_poly c m q)) (mul_vars-ok xs m n)
    ∙ ap (λ z. (c *ℤ d) *ℤ (eval_vars xs m *ℤ eval_vars xs n) +ℤ z) (scale_poly-ok xs c m q)
    ∙ scaled c (eval_vars xs m) d (eval_vars xs n) (eval_poly xs q)

zero_times : (a : ℤ) → pos 0 ≡ pos 0 *ℤ a
zero_times a = omega (arith, ints)

spread : (a p q : ℤ) → a *ℤ q +ℤ p *ℤ q ≡ (a +ℤ p) *ℤ q
spread a p q = sym (+ℤ-*ℤ a p q)

mul_poly-ok : (xs : List ℤ) (p q : Poly) → eval_poly xs (mul_poly p q) ≡ eval_poly xs p *ℤ eval_poly xs q
mul_poly-ok xs nil q = zero_times (eval_poly xs q)
mul_poly-ok xs (term c m p) q =
    add_poly-ok xs (scale_poly c m q) (mul_poly p q)
    ∙ ap (λ z. z +ℤ eval_poly xs (mul_poly p q)) (scale_poly-ok xs c m q)
    ∙ ap (λ z. (c *ℤ eval_vars xs m) *ℤ eval_poly xs q +ℤ z) (mul_poly-ok xs p q)
    ∙ spread (c *ℤ eval_vars xs m) (eval_poly xs p) (eval_poly xs q)

turned : (c m p : ℤ) → neg_ℤ c *ℤ m +ℤ neg_ℤ p ≡ neg_ℤ (c *ℤ m +ℤ p)
turned c m p = omega (arith, ints, neg_ℤ-*ℤ c m)

neg_poly-ok : (xs : List ℤ) (p : Poly) → eval_poly xs (neg_poly p) ≡ neg_ℤ (eval_poly xs p)
neg_poly-ok xs nil = refl
neg_poly-ok xs (term c m p) = ap (λ z. neg_ℤ c *ℤ eval_vars xs m +ℤ z) (neg_poly-ok xs p) ∙ turned c (eval_vars xs m) (eval_poly xs p)

one_var : (a : ℤ) → a ≡ pos 1 *ℤ (a *ℤ pos 1) +ℤ pos 0
one_var a = omega (arith, ints)

constant : (c : ℤ) → c ≡ c *ℤ pos 1 +ℤ pos 0
constant c = omega (arith, ints)

pub norm-ok : (xs : List ℤ) (a : Expr) → eval xs a ≡ eval_poly xs (norm a)
norm-ok xs (var v) = one_var (value_at xs v)
norm-ok xs (con c) = constant c ∙ sym (put-ok xs c [] nil)
norm-ok xs (neg a) = ap neg_ℤ (norm-ok xs a) ∙ sym (neg_poly-ok xs (norm a))
norm-ok xs (a ⊕ b) = ap (λ z. z +ℤ eval xs b) (norm-ok xs a) ∙ ap (λ z. eval_poly xs (norm a) +ℤ z) (norm-ok xs b) ∙ sym (add_poly-ok xs (norm a) (norm b))
norm-ok xs (a ⊗ b) = ap (λ z. z *ℤ eval xs b) (norm-ok xs a) ∙ ap (λ z. eval_poly xs (norm a) *ℤ z) (norm-ok xs b) ∙ sym (mul_poly-ok xs (norm a) (norm b))

-- two expressions with one normal form are equal
pub ring : (xs : List ℤ) (a b : Expr) → norm a ≡ norm b → eval xs a ≡ eval xs b
ring xs a b e = norm-ok xs a ∙ ap (eval_poly xs) e ∙ sym (norm-ok xs b)
