mod PrintedTexts
