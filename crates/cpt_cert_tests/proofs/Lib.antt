mod Refutation
