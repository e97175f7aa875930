mod Zero
